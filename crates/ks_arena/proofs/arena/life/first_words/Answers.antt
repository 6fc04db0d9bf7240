use Rattle.std.proofs.Common.{rules, arith, ◌≡◌, ℕ, ◌+◌, ◌*◌, ◌/◌, ◌%◌, ◌^◌, ◌<◌, ◌∙◌, List, length, get_or, set, bit_or, cond, eqb, length-set, get_or-set_other, subst, sym}
use Rattle.ks_arena.specs.Spots.{calls_at, shapes_at, turn_at, free_at, words_for}
use Rattle.ks_arena.specs.Rule.{FirstBits}
use Rattle.ks_arena.proofs.Apart.{count_no_free, turn_no_free, bit_inside}
use Rattle.ks_arena.proofs.Bits.{first_more}
use Rattle.ks_arena.proofs.arena.life.first_words.Goals as goal

-- the words of n nodes, when the bits of those before node m are set
abbrev Begun : ℕ → ℕ → List ℕ → Type 0
Begun n m ws = (length ws ≡ words_for n) × (get_or ws calls_at 0 ≡ 0) × (get_or ws shapes_at 0 ≡ 0) × ((i : ℕ) → i < n → get_or ws (turn_at i) 0 ≡ cond (eqb i 0) 1 0) × FirstBits n m ws

begun_more : (n m : ℕ) (ws : List ℕ) → 0 < m → m < n → Begun n m ws → Begun n (m + 1) (set ws (free_at n (m / 64)) (bit_or (get_or ws (free_at n (m / 64)) 0) (1 * 2 ^ (m % 64) % 2 ^ 64)))
begun_more n m ws pos near so = let q : ℕ = m / 64 in let wide : free_at n q < length ws = subst (λ (z : ℕ). free_at n q < z) (sym so.0) (bit_inside m n near) in (
  length-set ws _ _ ∙ so.0,
  get_or-set_other ws _ calls_at _ 0 (count_no_free calls_at n q (omega arith)) ∙ so.1,
  get_or-set_other ws _ shapes_at _ 0 (count_no_free shapes_at n q (omega arith)) ∙ so.2,
  λ i low. get_or-set_other ws _ (turn_at i) _ 0 (turn_no_free i n q low) ∙ so.3 i low,
  first_more n m ws pos wide so.4,
)

pub loop-node-preserved : goal.loop-node-preserved
loop-node-preserved c = let pos = c.loop-node.auto.node in let near : c.loop-node.node < c.args.nodes = search rules in let m : ℕ = c.loop-node.node in let row = c.loop-node.row in
    subst (λ (z : ℕ). Begun c.args.nodes (m + 1) (set row z (bit_or (get_or row z 0) (1 * 2 ^ (m % 64) % 2 ^ 64)))) (sym c.free_at-in-loop-node.ensures) (begun_more c.args.nodes m row (omega arith) near c.loop-node.invariant)
