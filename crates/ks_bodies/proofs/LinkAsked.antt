-- What the calls of shapes under links require of bodies.
use Rattle.std.proofs.Common.{ℕ, suc, ◌≡◌, ◌<◌, ◌≤◌, List, [], ◌∷◌, Option, Some, sym, ◌∙◌, ap, subst, arith, get_or, IsTrue}
use Rattle.std.specs.Prelude.{All, drop}
use Rattle.ks_keysets.specs.declared.Frame.{Frame}
use Rattle.ks_keysets.specs.declared.Span.{Span}
use Rattle.ks_keysets.specs.declared.NodeState.{NodeState}
use Rattle.ks_keysets.specs.Record.{Holds}
use Rattle.ks_keysets.specs.Keyset.{InKeyset, Good}
use Rattle.ks_node.specs.declared.start.Start.{Start}
use Rattle.ks_node.specs.Body.{Body, is_branch, all_places, frame_of}
use Rattle.ks_node.specs.Edges.{record_of}
use Rattle.ks_node.specs.Asks.{Suits}
use Rattle.ks_flow.specs.Link.{Link, IsRange}
use Rattle.ks_bodies.specs.Links.{IsLinked, StandsLinked}
use Rattle.ks_bodies.proofs.Asked.{no_pairs}
use Rattle.ks_bodies.proofs.LinkRecords.{range_of}
use Rattle.ks_bodies.proofs.LinkStanding.{linked_framed, linked_range}

pub branch_pairs : (b : Body) (cut : ℕ) → IsLinked b → IsTrue (is_branch b) → All (λ x. x.place < cut) b.pairs
branch_pairs b cut x branch = no_pairs b.pairs (λ x. x.place < cut) (x.sound.branch_no_pairs branch)

pub root_range : (g : ℕ → NodeState) (f : ℕ → Frame) (b : Body) → Link g f → StandsLinked g f 0 b → b.range ≡ Some all_places
root_range g f b link stands = sym (ap (λ (z : Frame). z.range) stands.frame) ∙ link.root

pub root_level : (f : ℕ → Frame) (b : Body) (bound : ℕ) → f 0 ≡ frame_of b → (f 0).level < bound → b.level < bound
root_level f b bound frame below = omega (arith, below, ap (λ (z : Frame). z.level) frame)

pub same_span : (o : Option Span) (s t : Span) → o ≡ Some s → o ≡ Some t → s ≡ t
same_span o s t a c = let e : Some s ≡ Some t = sym a ∙ c in cc

later_starts : (ss : List Start) (low last : ℕ) → All (λ s. low < s.low) (drop 1 ss) → All (λ s. s.low ≤ last) ss → All (λ s. (low ≤ s.low) × (s.low ≤ last)) (drop 1 ss)
later_starts [] low last above upto k d lt = absurd (omega arith)
later_starts (s ∷ ss) low last above upto k d lt = (omega (arith, above k d lt), upto (suc k) d (omega arith))

pub range_suits : (g : ℕ → NodeState) (f : ℕ → Frame) (n : ℕ) (b : Body) → Good g → Link g f → StandsLinked g f n b → ((p : ℕ) → InKeyset g n p → ((f n).level ≡ 0) × (s : Span) × IsRange (f n) s × Holds s p) →
    (range : Span) × (b.range ≡ Some range) × Suits b range
range_suits g f n b good link stands keyset =
    let r = range_of b stands.linked in
    let framed = linked_framed b stands.linked in
    let here = linked_range g f n b stands in (
      r.0,
      r.1,
      record {
        begins_low = sym framed.low_is;
        pairs = λ k d lt. let p : ℕ = (get_or b.pairs k d).place in let y = keyset p (good.stored n (record_of b) stands.has k d lt) in subst (λ (s : Span). Holds s p) (same_span (f n).range y.1 r.0 y.2.is here.is) y.3;
        starts = later_starts b.starts r.0.low r.0.last framed.above framed.upto;
        is_range = λ q e. same_span b.range q r.0 e r.1;
      },
    )
