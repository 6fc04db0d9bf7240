-- What words ask for: one command at most.
use Rattle.std.proofs.Common.{ℕ, ◌≡◌, ◌≤◌, inl, inr, List, length, get_or, [], refl, sym, ◌∙◌, ap, subst, arith, if◌then◌else◌, ◌==◌}
use Rattle.std.specs.Prelude.{IsTrue}
use Rattle.std.proofs.Props.{props}
use Rattle.std.specs.Fmt.{decimal}
use Rattle.std.proofs.lemmas.Fmt.{decimal_injective}
use Rattle.ks_lines.specs.declared.setting.Aiding.{Aiding}
use Rattle.ks_lines.specs.declared.setting.Aiding.TheVariants.{Guides, Hints}
use Rattle.ks_lines.specs.declared.setting.Setting.{Setting}
use Rattle.ks_words.specs.declared.pairing.Pairing.{Pairing}
use Rattle.ks_words.specs.declared.pairing.Structure.{Structure}
use Rattle.ks_words.specs.declared.pairing.Structure.TheVariants.{List as SortedList, Bplus, Hash, Bst}
use Rattle.ks_words.specs.declared.pairing.Technique.{Technique}
use Rattle.ks_words.specs.declared.pairing.Technique.TheVariants.{Coupling, GiveUp, LinkMove}
use Rattle.ks_words.specs.declared.words.Draft.{Draft}
use Rattle.ks_words.specs.declared.words.Asked.TheVariants.{Run, Make, Check}
use Rattle.ks_words.specs.declared.words.Text.{Text}
use Rattle.ks_words.specs.declared.words.Text.TheVariants.{Script, Checked}
use Rattle.ks_words.specs.Pairings.{structure_row, technique_row, is_served}
use Rattle.ks_words.specs.Words.{Spells, AreRunWords, AsksToRun, AskToServe, IsCommand, IsMake, Asks}

-- what words that ask to serve a script have, with the number of workers or without
record Front (words : List (List ℕ)) (p : Pairing) (n : ℕ) : Type 0 where
  pub least : 4 ≤ length words
  pub most : length words ≤ 5
  pub nodes : get_or words 1 [] ≡ (structure_row p.structure).word
  pub template : get_or words 2 [] ≡ (technique_row p.technique).word
  pub arena : get_or words 3 [] ≡ decimal n

front_of : (words : List (List ℕ)) (p : Pairing) (n workers : ℕ) (a : Aiding) → AreRunWords words p n workers a → Front words p n
front_of words p n workers Guides (inl e) = let long : length words ≡ 5 = ap length e in record {
  least = omega arith;
  most = omega arith;
  nodes = ap (λ xs. get_or xs 1 []) e;
  template = ap (λ xs. get_or xs 2 []) e;
  arena = ap (λ xs. get_or xs 3 []) e;
}
front_of words p n workers Guides (inr (e, _)) = let long : length words ≡ 4 = ap length e in record {
  least = omega arith;
  most = omega arith;
  nodes = ap (λ xs. get_or xs 1 []) e;
  template = ap (λ xs. get_or xs 2 []) e;
  arena = ap (λ xs. get_or xs 3 []) e;
}
front_of words p n workers Hints e = let long : length words ≡ 5 = ap length e in record {
  least = omega arith;
  most = omega arith;
  nodes = ap (λ xs. get_or xs 1 []) e;
  template = ap (λ xs. get_or xs 2 []) e;
  arena = ap (λ xs. get_or xs 3 []) e;
}

front : (words : List (List ℕ)) (p : Pairing) (setting : Setting) → Spells words (Run p setting) → Front words p setting.nodes
front words p setting s = front_of words p setting.nodes setting.workers setting.aiding s.is

long_make : (words : List (List ℕ)) (p : Pairing) (setting : Setting) (d : Draft) → Spells words (Make p setting d) → length words ≡ 7
long_make words p setting d s = ap length s.is.words_are

-- a command to serve a script asks for no judgment, nor to make a script, and one to make a script for no judgment
pub run_not_check : (words : List (List ℕ)) (p : Pairing) (setting : Setting) → Spells words (Run p setting) → Spells words Check → ⊥
run_not_check words p setting run check = let f = front words p setting run in let least = f.least in let e : length words ≡ 1 = ap length check.is in omega arith

pub run_not_make : (words : List (List ℕ)) (p q : Pairing) (setting other : Setting) (d : Draft) → Spells words (Run p setting) → Spells words (Make q other d) → ⊥
run_not_make words p q setting other d run make = let f = front words p setting run in let most = f.most in let e = long_make words q other d make in omega arith

pub make_not_check : (words : List (List ℕ)) (p : Pairing) (setting : Setting) (d : Draft) → Spells words (Make p setting d) → Spells words Check → ⊥
make_not_check words p setting d make check = let e = ap length (sym check.is ∙ make.is.words_are) in omega (arith, e)

pub asks_command : (words : List (List ℕ)) (t : Text) → Asks words t → IsCommand words
asks_command words Script (p, n, (setting, is, s)) = (Run p setting, s)
asks_command words Checked s = (Check, s)

pub make_command : (words : List (List ℕ)) → IsMake words → IsCommand words
make_command words (p, n, d, (setting, is, s)) = (Make p setting d, s)

-- the words of a pairing are of no other

-- by the first two bytes of the word: `bplus` and `bst` differ in their second
abbrev structure_of : List ℕ → Structure
structure_of word =
    if get_or word 0 0 == 108 then SortedList
    else if get_or word 0 0 == 104 then Hash
    else if get_or word 1 0 == 112 then Bplus
    else Bst

abbrev technique_of : List ℕ → Technique
technique_of word = if get_or word 0 0 == 99 then Coupling else if get_or word 0 0 == 103 then GiveUp else LinkMove

structure_back : (s : Structure) → structure_of (structure_row s).word ≡ s
structure_back SortedList = refl
structure_back Bplus = refl
structure_back Hash = refl
structure_back Bst = refl

technique_back : (t : Technique) → technique_of (technique_row t).word ≡ t
technique_back Coupling = refl
technique_back GiveUp = refl
technique_back LinkMove = refl

structure_once : (word : List ℕ) (s t : Structure) → word ≡ (structure_row s).word → word ≡ (structure_row t).word → s ≡ t
structure_once word s t a b = sym (structure_back s) ∙ (ap structure_of (sym a ∙ b) ∙ structure_back t)

technique_once : (word : List ℕ) (s t : Technique) → word ≡ (technique_row s).word → word ≡ (technique_row t).word → s ≡ t
technique_once word s t a b = sym (technique_back s) ∙ (ap technique_of (sym a ∙ b) ∙ technique_back t)

-- pairings of the same two are the same
abbrev pairing_at : (s : Structure) (t : Technique) → IsTrue (is_served s t) → Pairing
pairing_at s t x = record { structure = s; technique = t; served = x }

served_once : (s : Structure) (t : Technique) → IsProp (IsTrue (is_served s t))
served_once s t = hlevel props

pairing_is : (p q : Pairing) → p.structure ≡ q.structure → p.technique ≡ q.technique → p ≡ q
pairing_is p q a b =
    subst (λ s. (x : IsTrue (is_served s q.technique)) → p ≡ pairing_at s q.technique x) a
    (subst (λ t. (x : IsTrue (is_served p.structure t)) → p ≡ pairing_at p.structure t x) b
    (λ x. ap (pairing_at p.structure p.technique) (served_once p.structure p.technique p.served x)))
    q.served

pub run_once : (words : List (List ℕ)) (p q : Pairing) (setting other : Setting) → Spells words (Run p setting) → Spells words (Run q other) → (p ≡ q) × (setting.nodes ≡ other.nodes)
run_once words p q setting other a b =
    let f = front words p setting a in let k = front words q other b in (
      pairing_is p q (structure_once _ p.structure q.structure f.nodes k.nodes) (technique_once _ p.technique q.technique f.template k.template),
      decimal_injective setting.nodes other.nodes (let le = setting.nodes_fit.1 in omega (arith, le)) (let le = other.nodes_fit.1 in omega (arith, le)) (sym f.arena ∙ k.arena),
    )

pub make_once : (words : List (List ℕ)) (p q : Pairing) (setting other : Setting) (d e : Draft) → Spells words (Make p setting d) → Spells words (Make q other e) → (p ≡ q) × (setting.nodes ≡ other.nodes)
make_once words p q setting other d e a b = let is = sym a.is.words_are ∙ b.is.words_are in (
  pairing_is p q (structure_once _ p.structure q.structure refl (ap (λ xs. get_or xs 1 []) is)) (technique_once _ p.technique q.technique refl (ap (λ xs. get_or xs 2 []) is)),
  decimal_injective setting.nodes other.nodes (let le = setting.nodes_fit.1 in omega (arith, le)) (let le = other.nodes_fit.1 in omega (arith, le)) (ap (λ xs. get_or xs 3 []) is),
)

-- what holds of the pairing and the number of nodes of a run holds of those that its words name
pub of_run : (P : Pairing → ℕ → Type 0) (words : List (List ℕ)) (p q : Pairing) (setting : Setting) (n : ℕ) → Spells words (Run p setting) → AsksToRun words q n → P p setting.nodes → P q n
of_run P words p q setting n s (other, is, k) x = let e = run_once words p q setting other s k in subst (P q) (e.1 ∙ is) (subst (λ r. P r setting.nodes) e.0 x)

-- and so if a command serves
pub served_run : (P : Pairing → ℕ → Type 0) (words : List (List ℕ)) (p q : Pairing) (setting : Setting) (n : ℕ) → Spells words (Run p setting) → AskToServe words q n → P p setting.nodes → P q n
served_run P words p q setting n s (inl asks) x = of_run P words p q setting n s asks x
served_run P words p q setting n s (inr (d, (other, is, k))) x = absurd (run_not_make words p q setting other d s k)

pub served_make : (P : Pairing → ℕ → Type 0) (words : List (List ℕ)) (p q : Pairing) (setting : Setting) (n : ℕ) (d : Draft) → Spells words (Make p setting d) → AskToServe words q n → P p setting.nodes → P q n
served_make P words p q setting n d s (inl (other, is, k)) x = absurd (run_not_make words q p other setting d k s)
served_make P words p q setting n d s (inr (e, (other, is, k))) x = let same = make_once words p q setting other d e s k in subst (P q) (same.1 ∙ is) (subst (λ r. P r setting.nodes) same.0 x)
