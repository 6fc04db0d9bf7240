-- Laws of traces: how the growths of a trace that a caller sees add up, and what holds at its beginnings.
use Rattle.std.proofs.Common.{◌≡◌, ℕ, inl, inr, List, [], ◌∷◌, ◌++◌, sym, refl, ap, ◌∙◌, subst, append_assoc}
use Rattle.ks_keysets.specs.Keyset.{Good}
use Rattle.ks_history.specs.declared.Event.{Event}
use Rattle.ks_history.specs.declared.Event.TheVariants.{Take, Give, Claim, Shape, Call, Twin}
use Rattle.ks_history.specs.Trace.{◌⊑◌, caller_of, graph_after, held, turn_after}
use Rattle.ks_history.specs.Own.{mine, drop_one, hand}
use Rattle.ks_history.specs.Lawful.{Lawful, GoodThroughout, at_opening, and_then}
use Rattle.ks_history.specs.Passes.{Has, NoneOf, NoCallBy, GrowsByOthers, GrowsWith}
use Rattle.ks_history.specs.Callers.{NoneBy}
use Rattle.ks_history.specs.Stays.{StaysHeld}
use Rattle.ks_history.specs.Laws.Stays.{AreInTurn, cond_here, others_keep, others_turn}
use Rattle.ks_history.specs.Laws.Hand.{hand_others, mine_own, mine_others}

-- what a list of callers says of each of them

pub none_by : (cs : List ℕ) (es : List Event) (c : ℕ) → NoneOf cs es → Has cs c → NoneBy c es
none_by cs [] c none has = tt
none_by cs (e ∷ es) c none has = ((λ s. none.0 (subst (Has cs) (sym s) has)), none_by cs es c none.1 has)

pub none_of : (es : List Event) (c : ℕ) → NoneBy c es → NoneOf (c ∷ []) es
none_of [] c none = tt
none_of (e ∷ es) c none = (not_it, none_of es c none.1)
  where
    not_it : Has (c ∷ []) (caller_of e) → ⊥
    not_it (inl same) = none.0 (sym same)
    not_it (inr other) = absurd other

pub none_by_both : (c : ℕ) (es fs : List Event) → NoneBy c es → NoneBy c fs → NoneBy c (es ++ fs)
none_by_both c [] fs none none' = none'
none_by_both c (e ∷ es) fs none none' = (none.0, none_by_both c es fs none.1 none')

pub none_of_both : (cs : List ℕ) (es fs : List Event) → NoneOf cs es → NoneOf cs fs → NoneOf cs (es ++ fs)
none_of_both cs [] fs none none' = none'
none_of_both cs (e ∷ es) fs none none' = (none.0, none_of_both cs es fs none.1 none')

pub none_by_newer : (c : ℕ) (es fs : List Event) → NoneBy c (es ++ fs) → NoneBy c es
none_by_newer c [] fs none = tt
none_by_newer c (e ∷ es) fs none = (none.0, none_by_newer c es fs none.1)

pub none_by_older : (c : ℕ) (es fs : List Event) → NoneBy c (es ++ fs) → NoneBy c fs
none_by_older c [] fs none = none
none_by_older c (e ∷ es) fs none = none_by_older c es fs none.1

pub no_call_both : (c : ℕ) (es fs : List Event) → NoCallBy c es → NoCallBy c fs → NoCallBy c (es ++ fs)
no_call_both c [] fs none none' = none'
no_call_both c (Take d i ∷ es) fs none none' = no_call_both c es fs none none'
no_call_both c (Give d i ∷ es) fs none none' = no_call_both c es fs none none'
no_call_both c (Claim d i ∷ es) fs none none' = no_call_both c es fs none none'
no_call_both c (Shape d changes ∷ es) fs none none' = no_call_both c es fs none none'
no_call_both c (Call d i op reply ∷ es) fs none none' = (none.0, no_call_both c es fs none.1 none')
no_call_both c (Twin d i i' op reply ∷ es) fs none none' = (none.0, no_call_both c es fs none.1 none')

-- a caller that does nothing makes no Call
pub none_no_call : (c : ℕ) (es : List Event) → NoneBy c es → NoCallBy c es
none_no_call c [] none = tt
none_no_call c (Take d i ∷ es) none = none_no_call c es none.1
none_no_call c (Give d i ∷ es) none = none_no_call c es none.1
none_no_call c (Claim d i ∷ es) none = none_no_call c es none.1
none_no_call c (Shape d changes ∷ es) none = none_no_call c es none.1
none_no_call c (Call d i op reply ∷ es) none = (none.0, none_no_call c es none.1)
none_no_call c (Twin d i i' op reply ∷ es) none = (none.0, none_no_call c es none.1)

-- beginnings of traces

abbrev pub begins_self : (h : List Event) → h ⊑ h
begins_self h = record { rest = []; is = refl }

abbrev pub begins_more : (e : Event) (h : List Event) → h ⊑ e ∷ h
begins_more e h = record { rest = e ∷ []; is = refl }

abbrev pub begins_append : (rest h : List Event) → h ⊑ rest ++ h
begins_append rest h = record { rest = rest; is = refl }

abbrev pub begins_both : (g h k : List Event) → g ⊑ h → h ⊑ k → g ⊑ k
begins_both g h k a b = record { rest = b.rest ++ a.rest; is = b.is ∙ ap (λ (z : List Event). b.rest ++ z) a.is ∙ sym (append_assoc b.rest a.rest g) }

abbrev pub by_others_begins : (c : ℕ) (g h : List Event) → GrowsByOthers c g h → g ⊑ h
by_others_begins c g h so = record { rest = so.rest; is = so.is }

abbrev pub with_begins : (c : ℕ) (e : Event) (g h : List Event) → GrowsWith c e g h → g ⊑ h
with_begins c e g h so = record { rest = e ∷ so.rest; is = so.is }

in_turn_older : (rest h : List Event) → AreInTurn (rest ++ h) → AreInTurn h
in_turn_older [] h are = are
in_turn_older (e ∷ es) h are = in_turn_older es h are.0

lawful_older : (rest h : List Event) → Lawful (rest ++ h) → Lawful h
lawful_older [] h lawful = lawful
lawful_older (e ∷ es) h lawful = lawful_older es h lawful.0

pub in_turn_begins : (g h : List Event) → g ⊑ h → AreInTurn h → AreInTurn g
in_turn_begins g h begins are = in_turn_older begins.rest g (subst AreInTurn begins.is are)

pub good_now : {h : List Event} → GoodThroughout h → Good (graph_after h)
good_now (at_opening good) = good
good_now (and_then before good) = good

pub good_earlier : {e : Event} {h : List Event} → GoodThroughout (e ∷ h) → GoodThroughout h
good_earlier (and_then before good) = before

good_older : (rest h : List Event) → GoodThroughout (rest ++ h) → GoodThroughout h
good_older [] h good = good
good_older (e ∷ es) h good = good_older es h (good_earlier good)

-- growths of a trace add up

abbrev pub by_others_none : (c : ℕ) (h : List Event) → GrowsByOthers c h h
by_others_none c h = record { rest = []; is = refl; others = tt }

abbrev pub by_others_both : (c : ℕ) (g h k : List Event) → GrowsByOthers c g h → GrowsByOthers c h k → GrowsByOthers c g k
by_others_both c g h k a b = record {
  rest = b.rest ++ a.rest;
  is = b.is ∙ ap (λ (z : List Event). b.rest ++ z) a.is ∙ sym (append_assoc b.rest a.rest g);
  others = none_by_both c b.rest a.rest b.others a.others;
}

-- others' events, and then others' events and one event
abbrev pub by_others_with : (c : ℕ) (e : Event) (g h k : List Event) → GrowsByOthers c g h → GrowsWith c e h k → GrowsWith c e g k
by_others_with c e g h k a b = record {
  rest = b.rest ++ a.rest;
  is = b.is ∙ ap (λ (z : List Event). e ∷ z) (ap (λ (z : List Event). b.rest ++ z) a.is ∙ sym (append_assoc b.rest a.rest g));
  others = none_by_both c b.rest a.rest b.others a.others;
}

abbrev pub with_others : (c : ℕ) (e : Event) (g h : List Event) (so : GrowsWith c e g h) → GrowsByOthers c g (so.rest ++ g)
with_others c e g h so = record { rest = so.rest; is = refl; others = so.others }

-- so with what c holds, its hand and its own events

pub by_others_keeps : (c i : ℕ) (g h : List Event) → GrowsByOthers c g h → AreInTurn h → turn_after g i ≡ held c → StaysHeld c i g h
by_others_keeps c i g h so are mine = subst (λ (z : List Event). StaysHeld c i g z) (sym so.is) (others_keep so.rest g c i so.others (subst AreInTurn so.is are) mine)

pub by_others_turn : (c i : ℕ) (g h : List Event) → GrowsByOthers c g h → turn_after h i ≡ held c → turn_after g i ≡ held c
by_others_turn c i g h so mine = others_turn so.rest g c i so.others (subst (λ (z : List Event). turn_after z i ≡ held c) so.is mine)

pub by_others_hand : (c : ℕ) (g h : List Event) → GrowsByOthers c g h → hand c h ≡ hand c g
by_others_hand c g h so = ap (hand c) so.is ∙ hand_others so.rest g c so.others

pub by_others_mine : (c : ℕ) (g h : List Event) → GrowsByOthers c g h → mine c h ≡ mine c g
by_others_mine c g h so = ap (mine c) so.is ∙ mine_others so.rest g c so.others

pub with_mine : (c : ℕ) (e : Event) (g h : List Event) → caller_of e ≡ c → GrowsWith c e g h → mine c h ≡ e ∷ mine c g
with_mine c e g h own so = ap (mine c) so.is ∙ mine_own (so.rest ++ g) e c own ∙ ap (λ (z : List Event). e ∷ z) (mine_others so.rest g c so.others)

pub take_hand : (c i : ℕ) (g h : List Event) → GrowsWith c (Take c i) g h → hand c h ≡ i ∷ hand c g
take_hand c i g h so = ap (hand c) so.is ∙ cond_here c c (i ∷ hand c (so.rest ++ g)) (hand c (so.rest ++ g)) refl ∙ ap (λ (z : List ℕ). i ∷ z) (hand_others so.rest g c so.others)

pub claim_hand : (c i : ℕ) (g h : List Event) → GrowsWith c (Claim c i) g h → hand c h ≡ i ∷ hand c g
claim_hand c i g h so = ap (hand c) so.is ∙ cond_here c c (i ∷ hand c (so.rest ++ g)) (hand c (so.rest ++ g)) refl ∙ ap (λ (z : List ℕ). i ∷ z) (hand_others so.rest g c so.others)

pub give_hand : (c i : ℕ) (g h : List Event) → GrowsWith c (Give c i) g h → hand c h ≡ drop_one i (hand c g)
give_hand c i g h so = ap (hand c) so.is ∙ cond_here c c (drop_one i (hand c (so.rest ++ g))) (hand c (so.rest ++ g)) refl ∙ ap (drop_one i) (hand_others so.rest g c so.others)
