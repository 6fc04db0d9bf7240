-- Each step keeps the rule.
use Rattle.std.proofs.Common.{◌≡◌, ℕ, zero, suc, ◌<◌, ◌≤◌, ◌≢◌, ◌⊎◌, List, [], ◌∷◌, ◌++◌, length, set, IsTrue, true, refl, sym, ap, ◌∙◌, subst, inl, inr, ⊎_elim, append-nil, true≢false, fold, arith}
use mathlib.Core.Option.{some, some-injective, some-ne-none}
use mathlib.Core.List.{cons≢nil}
use lib.ListN.{get_elem?}
use Rattle.std.proofs.lemmas.Bool.{cases_lt}
use Rattle.left_right.specs.Register.{Admits, Turns, TurnsAt}
use Rattle.atomic_table.proofs.Lists.{at_set, at_snoc}
use Rattle.ks_hints.specs.declared.hints.Hints.{Hints}
use Rattle.ks_hints.specs.declared.hint.Hint.{Hint}
use Rattle.ks_hints.specs.declared.shown.Shown.{Shown}
use Rattle.ks_hints.specs.declared.view.View.{View}
use Rattle.ks_hints.specs.Hints.{after_post, list_after}
use Rattle.ks_hints.proofs.Lists.{after_post_some}
use Rattle.ks_hints.specs.Rule.{Follows, AreOfPosts, HasPosted, HasSeen, new_view}

-- if nothing is shown, nothing was posted
none_posted : (posts : List Hint) → length (list_after posts) ≤ 0 → posts ≡ []
none_posted [] e = refl
none_posted (h ∷ older) e = absurd (let s = after_post_some h (list_after older) in omega arith)

-- a part of nothing is nothing
none_later : (rest seen : List Hint) → [] ≡ rest ++ seen → seen ≡ []
none_later [] seen e = sym e
none_later (h ∷ rest) seen e = absurd (cons≢nil (sym e))

first_follows : (x : Hints) (posts : List Hint) → Follows x posts new_view
first_follows x posts = record { rest = posts; begins = sym (append-nil posts); all = λ z. absurd (true≢false (sym z)); some_posted = λ z. absurd (true≢false (sym z)) }

-- the only view
only_view : (seat : ℕ) (v : View) → get_elem? (new_view ∷ []) seat ≡ some v → (seat ≡ 0) × (new_view ≡ v)
only_view zero v at = (refl, some-injective new_view v at)
only_view (suc seat) v at = absurd (some-ne-none v (sym at))

pub begins : (x : Hints) → x.list.items ≡ [] → AreOfPosts x (new_view ∷ [])
begins x e = record {
  posts = [];
  shown = e;
  each = λ seat v at. subst (Follows x []) (only_view seat v at).1 (first_follows x []);
  one = λ i j v w at there leads other. absurd (true≢false (sym (subst (λ (z : View). IsTrue z.leads) (sym (only_view i v at).1) leads)));
}

pub admits : Admits AreOfPosts new_view
admits x views k =
    let old : (seat : ℕ) (v : View) → get_elem? (views ++ new_view ∷ []) seat ≡ some v → IsTrue v.leads → get_elem? views seat ≡ some v
    = λ seat v at leads. ⊎_elim (λ e. e) (λ (e : new_view ≡ v). absurd (true≢false (sym (subst (λ (z : View). IsTrue z.leads) (sym e) leads)))) (at_snoc views new_view v seat at) in
    record {
      posts = k.posts;
      shown = k.shown;
      each = λ seat v at. ⊎_elim (k.each seat v) (λ (e : new_view ≡ v). subst (Follows x k.posts) e (first_follows x k.posts)) (at_snoc views new_view v seat at);
      one = λ i j v w at there leads other. k.one i j v w (old i v at leads) (old j w there other) leads other;
    }

-- a reader reads: its view is all posts, and leads as before
pub reads : (seat : ℕ) (v : View) → Turns AreOfPosts seat v (λ (x : Hints). x) HasSeen
reads seat v x views k at =
    let here : Follows x k.posts v = k.each seat v at in
    let w : View = record { seen = k.posts; leads = v.leads } in
    let was : (j : ℕ) (u : View) → get_elem? (set views seat w) j ≡ some u → IsTrue u.leads → (b : View) × (get_elem? views j ≡ some b) × IsTrue b.leads
    = λ j u there leads. ⊎_elim
    (λ (t : (j ≡ seat) × (w ≡ u)). (v, subst (λ (i : ℕ). get_elem? views i ≡ some v) (sym t.0) at, subst (λ (z : View). IsTrue z.leads) (sym t.1) leads))
    (λ (t : (j ≢ seat) × (get_elem? views j ≡ some u)). (u, t.1, leads))
    (at_set views seat j w u there) in (
      w,
      record {
        posts = k.posts;
        shown = k.shown;
        each = λ j u there. ⊎_elim
            (λ (t : (j ≡ seat) × (w ≡ u)). subst (Follows x k.posts) t.1 record { rest = []; begins = refl; all = λ leads. refl; some_posted = here.some_posted })
            (λ (t : (j ≢ seat) × (get_elem? views j ≡ some u)). k.each j u t.1)
            (at_set views seat j w u there);
        one = λ i j a b at_i at_j a_leads b_leads. let p = was i a at_i a_leads in let q = was j b at_j b_leads in k.one i j p.0 q.0 p.1 q.1 p.2 q.2;
      },
      ((here.rest, here.begins), k.shown),
    )

-- the view has seen all posts, and no other leads
abbrev Leads : Hints → List Hint → List View → ℕ → View → Type 0
Leads x posts views seat v = (v.seen ≡ posts) × ((j : ℕ) (u : View) → get_elem? views j ≡ some u → IsTrue u.leads → j ≡ seat)

leads_all : (seat : ℕ) (v : View) (x : Hints) (views : List View) (k : AreOfPosts x views) → get_elem? views seat ≡ some v → (0 < length x.list.items → IsTrue v.leads) → (0 < length x.list.items) ⊎ (length x.list.items ≤ 0) → Leads x k.posts views seat v
leads_all seat v x views k at leads (inl any) = ((k.each seat v at).all (leads any), λ j u there other. k.one j seat u v there at other (leads any))
leads_all seat v x views k at leads (inr no_posts) =
    let none : k.posts ≡ [] = none_posted k.posts (subst (λ (l : List Hint). length l ≤ 0) k.shown no_posts) in
    let here : Follows x k.posts v = k.each seat v at in
    (none_later here.rest v.seen (sym none ∙ here.begins) ∙ sym none, λ j u there other. absurd (let a : 0 < length x.list.items = (k.each j u there).some_posted other in omega arith))

-- the writer posts
pub posts : (seat : ℕ) (v : View) (x y : Hints) → y.list.items ≡ after_post x.list.items y.newest → (0 < length x.list.items → IsTrue v.leads) → TurnsAt AreOfPosts seat v x y HasPosted
posts seat v x y is leads views k at =
    let p : Leads x k.posts views seat v = leads_all seat v x views k at leads (cases_lt 0 (length x.list.items)) in
    let w : View = record { seen = y.newest ∷ v.seen; leads = true } in
    let some_top : 0 < length y.list.items = subst (λ (l : List Hint). 0 < length l) (sym is) (after_post_some y.newest x.list.items) in
    let only : (j : ℕ) (u : View) → get_elem? (set views seat w) j ≡ some u → IsTrue u.leads → j ≡ seat
    = λ j u there other. ⊎_elim (λ (t : (j ≡ seat) × (w ≡ u)). t.0) (λ (t : (j ≢ seat) × (get_elem? views j ≡ some u)). p.1 j u t.1 other) (at_set views seat j w u there) in (
      w,
      record {
        posts = y.newest ∷ k.posts;
        shown = is ∙ ap (λ (t : List Hint). after_post t y.newest) k.shown;
        each = λ j u there. ⊎_elim
            (λ (t : (j ≡ seat) × (w ≡ u)). subst (Follows y (y.newest ∷ k.posts)) t.1 record { rest = []; begins = ap (λ (l : List Hint). y.newest ∷ l) (sym p.0); all = λ z. ap (λ (l : List Hint). y.newest ∷ l) p.0; some_posted = λ z. some_top })
            (λ (t : (j ≢ seat) × (get_elem? views j ≡ some u)). let f : Follows x k.posts u = k.each j u t.1 in record { rest = y.newest ∷ f.rest; begins = ap (λ (l : List Hint). y.newest ∷ l) f.begins; all = λ other. absurd (t.0 (p.1 j u t.1 other)); some_posted = λ other. some_top })
            (at_set views seat j w u there);
        one = λ i j a b at_i at_j a_leads b_leads. only i a at_i a_leads ∙ sym (only j b at_j b_leads);
      },
      (refl, refl),
    )

abbrev shown_of : Hints → Shown
shown_of x = record { hints = x.list.items; newest = x.newest }

abbrev applied : Shown → Hint → Shown
applied s h = record { hints = after_post s.hints h; newest = h }

-- one operation was waiting
pub one_post : (x y : Hints) (ops : List Hint) (h : Hint) → ops ≡ h ∷ [] → shown_of y ≡ fold applied (shown_of x) ops → (y.newest ≡ h) × (y.list.items ≡ after_post x.list.items y.newest)
one_post x y ops h waits is =
    let one : shown_of y ≡ applied (shown_of x) h = is ∙ ap (λ l. fold applied (shown_of x) l) waits in
    let new : y.newest ≡ h = ap (λ (s : Shown). s.newest) one in
    (new, ap (λ (s : Shown). s.hints) one ∙ ap (λ (n : Hint). after_post x.list.items n) (sym new))
