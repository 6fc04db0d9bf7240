-- The two disciplines meet their laws.
use Rattle.std.proofs.Common.{ℕ, ◌≡◌, ◌⊎◌, inl, inr, List, Some, refl, sym, ◌∙◌, ap, subst, arith, false}
use Rattle.std.specs.Prelude.{All, Any}
use Rattle.ks_keysets.specs.declared.Edge.{Edge}
use Rattle.ks_keysets.specs.declared.Span.{Span}
use Rattle.ks_keysets.specs.declared.Frame.{Frame}
use Rattle.ks_keysets.specs.declared.Record.{Record}
use Rattle.ks_keysets.specs.declared.NodeState.{NodeState}
use Rattle.ks_keysets.specs.declared.Change.{Change}
use Rattle.ks_keysets.specs.Record.{top, Carries, LeadsOn}
use Rattle.ks_keysets.specs.Frame.{empty_record}
use Rattle.ks_keysets.specs.Keyset.{opening, IsLive, Good, SameFound, InInset, InOutset, InKeyset, record_at}
use Rattle.ks_flow.specs.Changes.{nodes_of, graph_with}
use Rattle.ks_flow.specs.Ways.{KeepsWays, names}
use Rattle.ks_flow.specs.Tree.{Tree, SameEdges}
use Rattle.ks_flow.specs.Link.{Link, IsRange, IsLinkEdge, IsChildEdge, LastsUnderLink}
use Rattle.ks_flow.specs.Discipline.{IsDiscipline, BeginsTree, TreeStep, LastsUnderTree, SameInset, BeginsLink, AttachStep, LinkStep, SameKeyset}
use Rattle.ks_flow.proofs.Changed.{changes_differ}
use Rattle.ks_flow.proofs.Insets.{insets_stay}
use Rattle.ks_flow.proofs.Regions.{good_after, found_after}
use Rattle.ks_flow.proofs.Attached.{attach_good, attach_found}
use Rattle.ks_flow.proofs.Used.{opening_tree, opening_one, tree_along, reaches_along}

same_inset : (g k : ℕ → NodeState) (n : ℕ) → SameEdges g k → SameInset n g k
same_inset g k n same = record {
  forth = λ p i. (i.0, reaches_along g k p n same.forth i.1);
  back = λ p i. (i.0, reaches_along k g p n same.back i.1);
}

-- one place of the keyset of a node that has the same inset and the same edges
keyset_one : (g k : ℕ → NodeState) (n p : ℕ) → (InInset g n p → InInset k n p) → ((r : Record) → record_at k n ≡ Some r → LeadsOn r p → InOutset g n p) → InKeyset g n p → InKeyset k n p
keyset_one g k n p inset outset i = (inset i.0, λ o. i.1 (outset o.0 o.1 o.2))

same_keyset : (g k : ℕ → NodeState) (n : ℕ) → SameEdges g k → SameKeyset n g k
same_keyset g k n same = record {
  forth = λ p. keyset_one g k n p ((same_inset g k n same).forth p) (λ r is on. let y = same.back n r is in (y.0, y.1, subst (λ (es : List Edge). Any (λ e. Carries e p) es) (sym y.2) on));
  back = λ p. keyset_one k g n p ((same_inset g k n same).back p) (λ r is on. let y = same.forth n r is in (y.0, y.1, subst (λ (es : List Edge). Any (λ e. Carries e p) es) (sym y.2) on));
}

inset_beside : (g : ℕ → NodeState) (xs : List Change) (n : ℕ) → Good g → KeepsWays g (nodes_of xs) (graph_with xs g) → names (nodes_of xs) n ≡ false → SameInset n g (graph_with xs g)
inset_beside g xs n good ways out =
    let y = insets_stay g (nodes_of xs) (graph_with xs g) (changes_differ g xs) ways good n in
    record { forth = λ p. (y p out).1; back = λ p. (y p out).0 }

keyset_beside : (g : ℕ → NodeState) (xs : List Change) (n : ℕ) → Good g → KeepsWays g (nodes_of xs) (graph_with xs g) → names (nodes_of xs) n ≡ false → SameKeyset n g (graph_with xs g)
keyset_beside g xs n good ways out =
    let y = inset_beside g xs n good ways out in
    let same : record_at (graph_with xs g) n ≡ record_at g n = (changes_differ g xs).same n out in
    record {
      forth = λ p. keyset_one g (graph_with xs g) n p (y.forth p) (λ r is on. (r, sym same ∙ is, on));
      back = λ p. keyset_one (graph_with xs g) g n p (y.back p) (λ r is on. (r, same ∙ is, on));
    }

pub tree_discipline : IsDiscipline BeginsTree Tree TreeStep LastsUnderTree SameInset
tree_discipline = record {
  opens = λ blank begins. opening_tree (λ n. blank) begins.low begins.range;
  good = λ g f xs good step. good_after g (nodes_of xs) (graph_with xs g) (changes_differ g xs) step.ways good;
  found = λ g f xs good step. found_after g (nodes_of xs) (graph_with xs g) (changes_differ g xs) step.ways good;
  facts_after = λ g f xs step. step.tree;
  facts_along = λ g k f same tree. tree_along g k f same tree;
  lasts_after = λ g f xs step. tt;
  lasts_along = λ g k f same. tt;
  lasts_on = λ g k l f h j a b. tt;
  keyset_after = λ g f xs n good step out. keyset_beside g xs n good step.ways out;
  keyset_along = same_keyset;
  beside_after = λ g f xs n good step out. inset_beside g xs n good step.ways out;
  beside_along = λ g k n same. same_inset g k n same;
  beside_on = λ g k l n a b. record { forth = λ p i. b.forth p (a.forth p i); back = λ p i. a.back p (b.back p i) };
}

-- links at the opening: only node 0 is live, on level 0

opening_link : (blank : Frame) → BeginsLink blank → Link opening (λ n. blank)
opening_link blank begins = record {
  range = λ n live. (all, is_all);
  root = begins.range;
  highest = λ n live ne. absurd (ne (opening_one n live.0 live.1).0);
  apart = λ n m s t p ln lm level a b c d. (opening_one n ln.0 ln.1).0 ∙ sym (opening_one m lm.0 lm.1).0;
  cover = λ l p le place. (0, (empty_record, refl), omega (arith, begins.level), all, is_all, (omega arith, place));
  edges = λ n r s is range. subst (λ (z : Record). All (λ e. IsLinkEdge (λ m. blank) n s e ⊎ IsChildEdge (λ m. blank) n s e) z.edges) (sym (opening_one n r is).1) (λ i d lt. absurd (omega arith));
  inside = λ n r p is lt low place. absurd (omega (arith, begins.level));
  beyond = λ n r s p is range lt place. absurd (omega (arith, ap (λ (z : Span). z.last) (whole s range)));
}
  where
    all : Span
    all = record { low = 0; last = top }

    is_all : IsRange blank all
    is_all = record { is = begins.range; low = sym begins.low; filled = omega arith; last = omega arith }

    whole : (s : Span) → IsRange blank s → s ≡ all
    whole s range = let e : Some s ≡ Some all = sym range.is ∙ begins.range in cc

-- the facts of links mention only edges

live_back : (g k : ℕ → NodeState) (n : ℕ) → SameEdges g k → IsLive k n → IsLive g n
live_back g k n same live = let y = same.back n live.0 live.1 in (y.0, y.1)

live_forth : (g k : ℕ → NodeState) (n : ℕ) → SameEdges g k → IsLive g n → IsLive k n
live_forth g k n same live = let y = same.forth n live.0 live.1 in (y.0, y.1)

link_along : (g k : ℕ → NodeState) (f : ℕ → Frame) → SameEdges g k → Link g f → Link k f
link_along g k f same link = record {
  range = λ n live. link.range n (live_back g k n same live);
  root = link.root;
  highest = λ n live ne. link.highest n (live_back g k n same live) ne;
  apart = λ n m s t p ln lm. link.apart n m s t p (live_back g k n same ln) (live_back g k m same lm);
  cover = λ l p le place. let y = link.cover l p le place in (y.0, live_forth g k y.0 same y.1, y.2, y.3, y.4, y.5);
  edges = λ n r s is range. let y = same.back n r is in subst (λ (es : List Edge). All (λ e. IsLinkEdge f n s e ⊎ IsChildEdge f n s e) es) y.2 (link.edges n y.0 s y.1 range);
  inside = λ n r p is lt low place. let y = same.back n r is in subst (λ (es : List Edge). Any (λ e. Carries e p) es) y.2 (link.inside n y.0 p y.1 lt low place);
  beyond = λ n r s p is range lt place. let y = same.back n r is in subst (λ (es : List Edge). Any (λ e. Carries e p) es) y.2 (link.beyond n y.0 s p y.1 range lt place);
}

lasts_same : (g k : ℕ → NodeState) (f : ℕ → Frame) → SameEdges g k → LastsUnderLink g f k f
lasts_same g k f same = record {
  live = λ n live. live_forth g k n same live;
  low = λ n live. refl;
  level = λ n live ne. refl;
  led = λ n l. let y = same.forth l.above l.node l.is in record { above = l.above; node = y.0; place = l.place; is = y.1; leads = subst (λ (es : List Edge). Any (λ e. Carries e l.place × (e.node ≡ n)) es) (sym y.2) l.leads; level = l.level };
}

lasts_then : (g k l : ℕ → NodeState) (f h j : ℕ → Frame) → LastsUnderLink g f k h → LastsUnderLink k h l j → LastsUnderLink g f l j
lasts_then g k l f h j a b = record {
  live = λ n live. b.live n (a.live n live);
  low = λ n live. b.low n (a.live n live) ∙ a.low n live;
  level = λ n live ne. b.level n (a.live n live) ne ∙ a.level n live ne;
  led = λ n l. b.led n (a.led n l);
}

link_good : (g : ℕ → NodeState) (xs : List Change) → Good g → KeepsWays g (nodes_of xs) (graph_with xs g) ⊎ AttachStep g xs → Good (graph_with xs g)
link_good g xs good (inl ways) = good_after g (nodes_of xs) (graph_with xs g) (changes_differ g xs) ways good
link_good g xs good (inr y) = attach_good g y.node (graph_with xs g) y.before y.after y.is good

link_found : (g : ℕ → NodeState) (xs : List Change) → Good g → KeepsWays g (nodes_of xs) (graph_with xs g) ⊎ AttachStep g xs → SameFound g (graph_with xs g)
link_found g xs good (inl ways) = found_after g (nodes_of xs) (graph_with xs g) (changes_differ g xs) ways good
link_found g xs good (inr y) = attach_found g y.node (graph_with xs g) y.before y.after y.is good

link_keyset : (g : ℕ → NodeState) (xs : List Change) (n : ℕ) → Good g → KeepsWays g (nodes_of xs) (graph_with xs g) ⊎ AttachStep g xs → names (nodes_of xs) n ≡ false → SameKeyset n g (graph_with xs g)
link_keyset g xs n good (inl ways) out = keyset_beside g xs n good ways out
link_keyset g xs n good (inr y) out = record { forth = λ p. (y.is.keysets n p).0; back = λ p. (y.is.keysets n p).1 }

pub link_discipline : IsDiscipline BeginsLink Link LinkStep LastsUnderLink SameKeyset
link_discipline = record {
  opens = opening_link;
  good = λ g f xs good step. link_good g xs good step.ways;
  found = λ g f xs good step. link_found g xs good step.ways;
  facts_after = λ g f xs step. step.keeps.link;
  facts_along = λ g k f same link. link_along g k f same link;
  lasts_after = λ g f xs step. step.keeps.lasts;
  lasts_along = lasts_same;
  lasts_on = lasts_then;
  keyset_after = λ g f xs n good step out. link_keyset g xs n good step.ways out;
  keyset_along = same_keyset;
  beside_after = λ g f xs n good step out. link_keyset g xs n good step.ways out;
  beside_along = same_keyset;
  beside_on = λ g k l n a b. record { forth = λ p i. b.forth p (a.forth p i); back = λ p i. a.back p (b.back p i) };
}
