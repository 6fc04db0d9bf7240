use Rattle.std.proofs.Common.{◌≡◌, ℕ, ◌<◌, List, length, sym, ap, ◌∙◌, subst}
use Rattle.atomic_table.specs.Table.{opening}
use Rattle.ks_arena.specs.Sound.{sort_of}
use Rattle.ks_arena.specs.Spots.{words_for}
use Rattle.ks_arena.specs.Rule.{Running, first_view, FirstBits}
use Rattle.ks_arena.proofs.Crew.{opens}
use Rattle.ks_arena.proofs.arena.Arena.start.Goals as goal

pub new-requires : goal.new-requires
new-requires g c = let w = c.in_ok-words.ensures in let ws : List ℕ = c.in_ok-words.words.items in let xs = c.in_ok-slots.slots.items in let n : length xs ≡ c.args.nodes = c.in_ok-slots.ensures.0 in
    subst (λ (z : List ℕ). Running (sort_of g.N.Node.layout g.N.Node.ranged) g.D.Discipline.begins g.D.Discipline.step g.N.Node.body (opening z xs first_view)) (sym c.as_slice.ensures.value)
    (opens (sort_of g.N.Node.layout g.N.Node.ranged) g.D.Discipline.begins g.D.Discipline.step g.N.Node.body ws xs c.requires.fits (w.long ∙ ap words_for (sym n)) w.counts.0 w.counts.1 (λ i near. w.turns i (subst (λ (z : ℕ). i < z) n near)) (subst (λ (z : ℕ). FirstBits z z ws) (sym n) w.bits) c.in_ok-slots.ensures.1)
