-- Where calls begin.
use Rattle.std.proofs.Common.{ℕ, List, [], ◌∷◌, ◌++◌, append_assoc, refl, sym, ap, ◌∙◌}
use Rattle.ks_history.specs.declared.Event.{Event}
use Rattle.ks_history.specs.declared.Event.TheVariants.{Take}
use Rattle.ks_history.specs.Laws.Alone.{alone_first, alone_still}
use Rattle.ks_history.specs.Laws.Begins.{with_others}
use Rattle.ks_history.specs.Passes.{GrowsWith}
use Rattle.ks_history.specs.Trace.{◌⊑◌}
use Rattle.ks_shape.specs.Hinted.{BeginsAt}

-- a call that has begun at node i did so, whatever follows
pub begins_on : (n c i : ℕ) (s0 m s1 : List Event) → s0 ⊑ m → m ⊑ s1 → BeginsAt n c i s0 m → BeginsAt n c i s0 s1
begins_on n c i s0 m s1 from to begun = λ near idle alone.
    let first = begun near idle (alone_first c s0 m s1 from to alone) in
    (to.rest ++ first.0, to.is ∙ ap (λ (z : List Event). to.rest ++ z) first.1 ∙ sym (append_assoc to.rest first.0 (Take c i ∷ s0)))

-- a call whose first event is that it takes node i begins there
pub begins_taking : (n c i : ℕ) (s0 s1 : List Event) → GrowsWith c (Take c i) s0 s1 → BeginsAt n c i s0 s1
begins_taking n c i s0 s1 took = λ near idle alone.
    let m : List Event = took.rest ++ s0 in
    let to : s0 ⊑ m = record { rest = took.rest; is = refl } in
    let on : m ⊑ s1 = record { rest = Take c i ∷ []; is = took.is } in
    ([], took.is ∙ ap (λ (z : List Event). Take c i ∷ z) (alone_still c s0 m (alone_first c s0 m s1 to on alone) (with_others c (Take c i) s0 s1 took)))
