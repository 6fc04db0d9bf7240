-- One call of a caller, and those of a scan.
use Rattle.std.proofs.Common.{◌≡◌, ◌<◌, ◌^◌, ℕ, suc, List, [], ◌∷◌, ◌++◌, map, sym, refl, ap, ap₂, subst, ◌∙◌, arith}
use Rattle.std.proofs.lemmas.List.{append_assoc, append-nil}
use Rattle.ks_keysets.specs.Layout.{Layout}
use Rattle.ks_keysets.specs.declared.Change.{Change}
use Rattle.ks_keysets.specs.declared.Frame.{Frame}
use Rattle.ks_keysets.specs.declared.NodeState.{NodeState}
use Rattle.ks_node.specs.declared.node.Node.{Ghosts as NodeGhosts}
use Rattle.ks_places.specs.declared.Placing.{Ghosts as PlacingGhosts}
use Rattle.ks_flow.specs.declared.discipline.Discipline.{Ghosts as DisciplineGhosts}
use Rattle.ks_arena.specs.declared.arena.Arena.{Arena}
use Rattle.ks_arena.specs.declared.held.Pass.{Pass}
use Rattle.ks_arena.specs.Sound.{Sort}
use Rattle.ks_shape.specs.Idle.{IsIdle}
use Rattle.ks_jobs.specs.About.{site_with}
use Rattle.ks_history.specs.declared.Op.{Op}
use Rattle.ks_history.specs.declared.Reply.{Reply}
use Rattle.ks_history.specs.declared.Event.{Event}
use Rattle.ks_history.specs.declared.Op.TheVariants.{Part as lists}
use Rattle.ks_history.specs.declared.Reply.TheVariants.{Listed}
use Rattle.ks_history.specs.Trace.{NumberedCall, calls_by}
use Rattle.ks_history.specs.Done.{Template, Done}
use Rattle.ks_history.specs.Calls.{numbered}
use Rattle.ks_history.specs.Laws.Calls.{done_calls}
use Rattle.ks_lines.specs.declared.parts.Part.{Part}
use Rattle.ks_lines.specs.declared.Scanned.{Scanned}
use Rattle.ks_lines.specs.Lines.{part_calls}
use Rattle.ks_lines.specs.Scan.{IsScanOf, PartsAscend}
use Rattle.ks_dictionary.specs.Scan.{DoneParts}
use Rattle.ks_serving.specs.Called.{call_at}

-- a pass of an arena, by another name of the arena
module _ {N D P : Type 0} {n : NodeGhosts N P} {q : PlacingGhosts P} {d : DisciplineGhosts D} where
  pub same_idle : (sort : Sort) (begins : Frame → Type 0) (step : (ℕ → NodeState) → (ℕ → Frame) → List Change → Type 0) (x y : Arena N D P n q d) → x ≡ y → (p : Pass N D)
      → IsIdle (site_with sort begins step x.table.shared.table_id x.callers x.nodes) p → IsIdle (site_with sort begins step y.table.shared.table_id y.callers y.nodes) p
  same_idle sort begins step x y same p = subst (λ (z : Arena N D P n q d). IsIdle (site_with sort begins step z.table.shared.table_id z.callers z.nodes) p) same

-- the call that is done, by other words for its operation, its reply and its number
pub one_call : (layout : Layout) (template : Template) (n c : ℕ) (op : Op) (s0 s1 : List Event) (reply : Reply) (number : ℕ) (op' : Op) (reply' : Reply) (number' : ℕ) → Done layout template n c op s0 s1 reply number
    → op' ≡ op → reply' ≡ reply → number' ≡ number → calls_by c s1 ≡ calls_by c s0 ++ numbered number' op' reply' ∷ []
one_call layout template n c op s0 s1 reply number op' reply' number' done is told counted =
    done_calls layout template n c op s0 s1 reply number done
    ∙ ap₂ (λ (o : Op) (r : Reply). calls_by c s0 ++ numbered number o r ∷ []) (sym is) (sym told)
    ∙ ap (λ (k : ℕ). calls_by c s0 ++ numbered k op' reply' ∷ []) (sym counted)

-- the calls of parts that were made one after another
parts_calls : (layout : Layout) (template : Template) (n c low last : ℕ) (s0 : List Event) (parts : List Part) (s1 : List Event) → DoneParts layout template n c low last s0 parts s1 → calls_by c s1 ≡ calls_by c s0 ++ part_calls low parts
parts_calls layout template n c low last s0 [] s1 done = ap (calls_by c) (sym done) ∙ sym (append-nil (calls_by c s0))
parts_calls layout template n c low last s0 (part ∷ parts) s1 done =
    let one : List NumberedCall = numbered part.number (lists low part.last) (Listed part.pairs) ∷ [] in
    parts_calls layout template n c (suc part.last) last done.0 parts s1 done.2
    ∙ ap (λ (xs : List NumberedCall). xs ++ part_calls (suc part.last) parts) (done_calls layout template n c (lists low part.last) s0 done.0 (Listed part.pairs) part.number done.1.done)
    ∙ append_assoc (calls_by c s0) one (part_calls (suc part.last) parts)

-- where keys are places, the calls of parts are at their keys
parts_at : (place : ℕ → ℕ) → ((k : ℕ) → k < 2 ^ 64 → place k ≡ k) → (low last : ℕ) → last < 2 ^ 64 → (parts : List Part) → PartsAscend low last parts → map (call_at place) (part_calls low parts) ≡ part_calls low parts
parts_at place plain low last small [] ascend = refl
parts_at place plain low last small (part ∷ parts) ascend =
    ap₂ (λ (x : NumberedCall) (xs : List NumberedCall). x ∷ xs)
    (ap₂ (λ (a b : ℕ). numbered part.number (lists a b) (Listed part.pairs)) (plain low (omega (arith, ascend.0, ascend.1, small))) (plain part.last (omega (arith, ascend.1, small))))
    (parts_at place plain (suc part.last) last small parts ascend.2)

-- the calls of a scan, where keys are places
pub scan_calls : (layout : Layout) (template : Template) (n c low last most : ℕ) (s0 : List Event) (parts : List Part) (stop : Scanned) (s1 : List Event) (place : ℕ → ℕ) → DoneParts layout template n c low last s0 parts s1 → IsScanOf low last most parts stop
    → ((k : ℕ) → k < 2 ^ 64 → place k ≡ k) → last < 2 ^ 64 → calls_by c s1 ≡ calls_by c s0 ++ map (call_at place) (part_calls low parts)
scan_calls layout template n c low last most s0 parts stop s1 place done scan plain small =
    parts_calls layout template n c low last s0 parts s1 done
    ∙ ap (λ (xs : List NumberedCall). calls_by c s0 ++ xs) (sym (parts_at place plain low last small parts scan.ascend))
