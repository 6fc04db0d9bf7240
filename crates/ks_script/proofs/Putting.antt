-- Text that is put into a piece, and what of it the sink takes; sources that are read step by step.
use Rattle.ks_script.proofs.Common.{ℕ, ◌≡◌, ◌+◌, ◌≤◌, ◌<◌, true, false, List, [], ◌∷◌, ◌++◌, length, take, drop, get_or, Option, Some, None, Result, Ok, Err, OnErr, sym, ap, subst, ◌∙◌, append_assoc, append-nil, length-append, arith, inl, inr, false≢true, take-append-drop, length-take}
use Rattle.std.specs.Prelude.{OnOk, is_err}
use Rattle.std.proofs.lemmas.List.{drop_more, drop_all}
use Rattle.ks_script.specs.declared.pieces.Piece.{Piece}
use Rattle.ks_script.specs.Outside.{Reads, Moves, Writes, Grew, GrewByFront, Rose}
use Rattle.ks_script.specs.Gone.{Gone}
use Rattle.ks_script.specs.Pieces.{Holds, Puts}

grew_none : (o : Option (List ℕ)) → Grew o o []
grew_none None = tt
grew_none (Some bytes) = ap Some (sym (append-nil bytes))

pub grew_on : (o n m : Option (List ℕ)) (s t : List ℕ) → Grew o n s → Grew n m t → Grew o m (s ++ t)
grew_on None n m s t g h = tt
grew_on (Some bytes) n m s t g h =
    let k : Grew (Some (bytes ++ s)) m t = subst (λ (x : Option (List ℕ)). Grew x m t) g h in
    k ∙ ap Some (append_assoc bytes s t)

-- a write takes the first bytes of the piece, or none
pub grew_written : (E : Type 0) (o n : Option (List ℕ)) (piece : List ℕ) (k : ℕ) → Writes {E = E} o n piece (Ok k) → Grew o n (take k piece)
grew_written E None n piece k w = tt
grew_written E (Some bytes) n piece k w = w

-- some bytes, and then first ones of others
front_on : (o n m : Option (List ℕ)) (s t : List ℕ) → Grew o n s → GrewByFront n m t → GrewByFront o m (s ++ t)
front_on o n m s t g f = record { front = s ++ f.front; rest = f.rest; split = ap (λ (x : List ℕ). s ++ x) f.split ∙ sym (append_assoc s f.front f.rest); grew = grew_on o n m s f.front g f.grew }

front_more : (o m : Option (List ℕ)) (p b : List ℕ) → GrewByFront o m p → GrewByFront o m (p ++ b)
front_more o m p b f = record { front = f.front; rest = f.rest ++ b; split = ap (λ (x : List ℕ). x ++ b) f.split ∙ append_assoc f.front f.rest b; grew = f.grew }

rose_from : (a b c : ℕ) → a ≤ b → Rose b c → Rose a c
rose_from a b c le (inl lt) = inl (omega arith)
rose_from a b c le (inr most) = inr most

-- at first nothing was put
pub holds_none : (t : Option (List ℕ)) (n : ℕ) (p : Piece) → p.bytes.items ≡ [] → p.failed ≡ false → Holds t n [] t n p
holds_none t n p none fine = record { going = λ f. ([], sym none, grew_none t); failed = λ bad. absurd (false≢true (sym fine ∙ bad)); count = omega arith }

module _ {S : Type 0} {taken : S → Option (List ℕ)} {faults : S → ℕ} where
  -- one text after another, and the same text
  pub puts_on : {o n m : S} {p q r : Piece} {a b : List ℕ} → Puts taken faults o p a n q → Puts taken faults n q b m r → Puts taken faults o p (a ++ b) m r
  puts_on {a = a} {b = b} f g = record { on = λ start count done h. rw (← append_assoc) (g.on start count (done ++ a) (f.on start count done h)) }

  pub puts_as : {o n : S} {p q : Piece} {a b : List ℕ} → Puts taken faults o p a n q → a ≡ b → Puts taken faults o p b n q
  puts_as {o = o} {n = n} {p = p} {q = q} f e = subst (λ (x : List ℕ). Puts taken faults o p x n q) e f

  pub puts_none : {o : S} {p : Piece} → Puts taken faults o p [] o p
  puts_none = record { on = λ start count done h. rw append-nil h }

  -- bytes that wait
  pub puts_append : {o : S} {p q : Piece} {bytes : List ℕ} → q.bytes.items ≡ p.bytes.items ++ bytes → q.failed ≡ p.failed → Puts taken faults o p bytes o q
  puts_append {o = o} {p = p} {bytes = bytes} e f = record {
    on = λ start count done h. record {
      going = λ fine. let g = h.going (sym f ∙ fine) in (g.0, ap (λ (x : List ℕ). x ++ bytes) g.1 ∙ (append_assoc g.0 p.bytes.items bytes ∙ ap (λ (x : List ℕ). g.0 ++ x) (sym e)), g.2);
      failed = λ bad. let g = h.failed (sym f ∙ bad) in (front_more start (taken o) done bytes g.0, g.1);
      count = h.count;
    };
  }

  -- a piece that is not offered since the sink has failed, and one that is offered
  pub offer_none : {o : S} {p q : Piece} → p.failed ≡ true → q.failed ≡ true → Puts taken faults o p [] o q
  offer_none bad same = record {
    on = λ start count done h. rw append-nil (record {
      going = λ fine. absurd (false≢true (sym fine ∙ same));
      failed = λ b. h.failed bad;
      count = h.count;
    });
  }

  pub offered : {T E : Type 0} (r : Result T E) {o n : S} {p q : Piece} {bytes : List ℕ} → p.failed ≡ false → q.failed ≡ is_err r → q.bytes.items ≡ [] → bytes ≡ p.bytes.items → OnOk r (Grew (taken o) (taken n) bytes) → OnErr r (GrewByFront (taken o) (taken n) bytes) → OnErr r (Rose (faults o) (faults n)) → faults o ≤ faults n → Puts taken faults o p [] n q
  offered (Ok x) {o = o} {n = n} {bytes = bytes} fine same none waits grew front rose le = record {
    on = λ start count done h. rw append-nil (let g = h.going fine in record {
      going = λ f. (done, simp (none, append-nil), rw (g.1, ← waits) (grew_on start (taken o) (taken n) g.0 bytes g.2 grew));
      failed = λ bad. absurd (false≢true (sym same ∙ bad));
      count = (let c = h.count in omega arith);
    });
  }
  offered (Err e) {o = o} {n = n} {bytes = bytes} fine same none waits grew front rose le = record {
    on = λ start count done h. rw append-nil (let g = h.going fine in record {
      going = λ f. absurd (false≢true (sym f ∙ same));
      failed = λ bad. (rw (g.1, ← waits) (front_on start (taken o) (taken n) g.0 bytes g.2 front), rose_from count (faults o) (faults n) h.count rose);
      count = (let c = h.count in omega arith);
    });
  }

-- all is put once the rest is
pub record Owes {S : Type 0} (taken : S → Option (List ℕ)) (faults : S → ℕ) (old : S) (before : Piece) (all : List ℕ) (new : S) (after : Piece) (rest : List ℕ) : Type 0 where
  pub on : (later : S) (last : Piece) → Puts taken faults new after rest later last → Puts taken faults old before all later last

module _ {S : Type 0} {taken : S → Option (List ℕ)} {faults : S → ℕ} where
  pub owes_all : {o : S} {p : Piece} {all : List ℕ} → Owes taken faults o p all o p all
  owes_all = record { on = λ m r h. h }

  pub owes_more : {o n m : S} {p q r : Piece} {all a rest : List ℕ} → Puts taken faults n q a m r → Owes taken faults o p all n q (a ++ rest) → Owes taken faults o p all m r rest
  owes_more f w = record { on = λ v s h. w.on v s (puts_on f h) }

  pub owes_as : {o n : S} {p q : Piece} {all a b : List ℕ} → Owes taken faults o p all n q a → a ≡ b → Owes taken faults o p all n q b
  owes_as {o} {n} {p} {q} {all} w e = subst (λ (x : List ℕ). Owes taken faults o p all n q x) e w

  -- the texts of the elements of a list, from the one at i on
  pub owes_next : {X : Type 0} (T : List X → List ℕ) (xs : List X) (i : ℕ) (d x : X) {o n : S} {p q : Piece} {all : List ℕ} → i < length xs → x ≡ get_or xs i d → Owes taken faults o p all n q (T (drop i xs)) → Owes taken faults o p all n q (T (x ∷ drop (i + 1) xs))
  owes_next T xs i d x {o} {n} {p} {q} {all} lt e w = subst (λ ys. Owes taken faults o p all n q (T ys)) (drop_more xs i d lt ∙ ap (λ y. y ∷ drop (i + 1) xs) (sym e)) w

  pub owes_last : {X : Type 0} (T : List X → List ℕ) (xs : List X) (i : ℕ) {o n m : S} {p q r : Piece} {all : List ℕ} → length xs ≤ i → Owes taken faults o p all n q (T (drop i xs)) → Puts taken faults n q (T []) m r → Puts taken faults o p all m r
  owes_last T xs i {o} {n} {m} {p} {q} {r} {all} le w f = w.on m r (subst (λ ys. Puts taken faults n q (T ys) m r) (sym (drop_all i xs le)) f)

-- one read more
pub gone_on : (E : Type 0) (o n m : Option (List ℕ)) (front into : List ℕ) (k : ℕ) → Gone o n front → Reads {E = E} n m into (Ok k) → Gone o m (front ++ take k into)
gone_on E None n m front into k g r = tt
gone_on E (Some bytes) n m front into k g r =
    let moved : Moves g.0 m into k = subst (λ (x : Option (List ℕ)). Reads {E = E} x m into (Ok k)) g.2 r in (
      drop k g.0,
      g.1 ∙ (ap (λ (x : List ℕ). front ++ x) (sym (take-append-drop k g.0) ∙ ap (λ (x : List ℕ). x ++ drop k g.0) (sym moved.start)) ∙ sym (append_assoc front (take k into) (drop k g.0))),
      moved.rest,
    )

pub gone_within : (E : Type 0) (o n m : Option (List ℕ)) (front into : List ℕ) (k limit : ℕ) → Gone o n front → Reads {E = E} n m into (Ok k) → length front + k ≤ limit → (all : List ℕ) × Gone o m all × (length all ≤ limit)
gone_within E o n m front into k limit g r le = (front ++ take k into, gone_on E o n m front into k g r, omega (arith, length-append front (take k into), length-take k into))
