-- What the events of a caller are between two moments: how such stretches add up, and which events are one.
use Rattle.std.proofs.Common.{◌≡◌, ℕ, List, [], ◌∷◌, ◌++◌, true, sym, subst, append_assoc, ◌∙◌}
use Rattle.ks_history.specs.declared.Event.{Event}
use Rattle.ks_history.specs.declared.Event.TheVariants.{Take, Give, Claim, Shape, Call, Twin}
use Rattle.ks_history.specs.declared.Op.{Op}
use Rattle.ks_history.specs.declared.Reply.{Reply}
use Rattle.ks_history.specs.Trace.{held, turn_after}
use Rattle.ks_history.specs.Callers.{NoneBy}
use Rattle.ks_history.specs.Passes.{GrowsByOthers, GrowsWith}
use Rattle.ks_history.specs.Stays.{StaysHeld}
use Rattle.ks_history.specs.Laws.Begins.{begins_self, begins_both}
use Rattle.ks_node.specs.Body.{Body}
use Rattle.ks_arena.specs.declared.held.Held.{Held as Hand}
use Rattle.ks_arena.specs.Sound.{Sort, blank_of}
use Rattle.ks_arena.specs.Clauses.{Matches}
use Rattle.ks_shape.specs.Laws.Single.{shown}
use Rattle.ks_shape.specs.Does.{EachOwn, DoesOnly, HoldsToSplit, MaySearch, MayFill, MayDel, MustSplit}

module _ (may : List Event → Event → Type 0) where
  own_others : (c : ℕ) (s es : List Event) → NoneBy c es → EachOwn may c s es
  own_others c s [] none = tt
  own_others c s (e ∷ es) none = ((λ own. absurd (none.0 own)), own_others c s es none.1)

  own_both : (c : ℕ) (s es fs : List Event) → EachOwn may c (fs ++ s) es → EachOwn may c s fs → EachOwn may c s (es ++ fs)
  own_both c s [] fs a b = b
  own_both c s (e ∷ es) fs a b = ((λ own. subst (λ (z : List Event). may z e) (sym (append_assoc es fs s)) (a.0 own)), own_both c s es fs a.1 b)

  pub does_none : (c : ℕ) (h : List Event) → DoesOnly may c h h
  does_none c h = record { grows = begins_self h; each = tt }

  pub does_others : (c : ℕ) (h k : List Event) → GrowsByOthers c h k → DoesOnly may c h k
  does_others c h k so = record { grows = record { rest = so.rest; is = so.is }; each = own_others c h so.rest so.others }

  pub does_with : (c : ℕ) (e : Event) (h k : List Event) (so : GrowsWith c e h k) → may (so.rest ++ h) e → DoesOnly may c h k
  does_with c e h k so is = record { grows = record { rest = e ∷ so.rest; is = so.is }; each = ((λ own. is), own_others c h so.rest so.others) }

  pub does_both : (c : ℕ) (g h k : List Event) → DoesOnly may c g h → DoesOnly may c h k → DoesOnly may c g k
  does_both c g h k a b = record { grows = begins_both g h k a.grows b.grows; each = own_both c g b.grows.rest a.grows.rest (subst (λ (z : List Event). EachOwn may c z b.grows.rest) a.grows.is b.each) a.each }

  -- for a caller whose number is written in another way
  pub does_on : (c d : ℕ) (g h k : List Event) → d ≡ c → DoesOnly may c g h → DoesOnly may d h k → DoesOnly may c g k
  does_on c d g h k same a b = does_both c g h k a (subst (λ (z : ℕ). DoesOnly may z h k) same b)

  -- so that the number is written as in the last stretch
  pub does_to : (c d : ℕ) (g h k : List Event) → d ≡ c → DoesOnly may c g h → DoesOnly may c h k → DoesOnly may d g k
  does_to c d g h k same a b = subst (λ (z : ℕ). DoesOnly may z g k) (sym same) (does_both c g h k a b)

-- events of a kind are of a wider kind

own_as : (may wide : List Event → Event → Type 0) → ((h : List Event) (e : Event) → may h e → wide h e) → (c : ℕ) (s es : List Event) → EachOwn may c s es → EachOwn wide c s es
own_as may wide so c s [] each = tt
own_as may wide so c s (e ∷ es) each = ((λ own. so (es ++ s) e (each.0 own)), own_as may wide so c s es each.1)

does_as : (may wide : List Event → Event → Type 0) → ((h : List Event) (e : Event) → may h e → wide h e) → (c : ℕ) (h k : List Event) → DoesOnly may c h k → DoesOnly wide c h k
does_as may wide so c h k does = record { grows = does.grows; each = own_as may wide so c h does.grows.rest does.each }

search_fills : (sort : Sort) (place : ℕ) (h : List Event) (e : Event) → MaySearch h e → MayFill sort place h e
search_fills sort place h (Take c i) so = tt
search_fills sort place h (Give c i) so = tt
search_fills sort place h (Claim c i) so = absurd so
search_fills sort place h (Shape c changes) so = absurd so
search_fills sort place h (Call c i op reply) so = tt
search_fills sort place h (Twin c i j op reply) so = tt

search_dels : (sort : Sort) (h : List Event) (e : Event) → MaySearch h e → MayDel sort h e
search_dels sort h (Take c i) so = tt
search_dels sort h (Give c i) so = tt
search_dels sort h (Claim c i) so = absurd so
search_dels sort h (Shape c changes) so = absurd so
search_dels sort h (Call c i op reply) so = tt
search_dels sort h (Twin c i j op reply) so = tt

pub searched_fills : (sort : Sort) (place c : ℕ) (h k : List Event) → DoesOnly MaySearch c h k → DoesOnly (MayFill sort place) c h k
searched_fills sort place c h k does = does_as MaySearch (MayFill sort place) (search_fills sort place) c h k does

pub searched_dels : (sort : Sort) (c : ℕ) (h k : List Event) → DoesOnly MaySearch c h k → DoesOnly (MayDel sort) c h k
searched_dels sort c h k does = does_as MaySearch (MayDel sort) (search_dels sort) c h k does

-- a put or an add, and a del, that continue, or that search next

pub fills_on : (sort : Sort) (place c d : ℕ) (g h k : List Event) → d ≡ c → DoesOnly (MayFill sort place) c g h → DoesOnly (MayFill sort place) c h k → DoesOnly (MayFill sort place) d g k
fills_on sort place c d g h k same a b = does_to (MayFill sort place) c d g h k same a b

pub fills_search : (sort : Sort) (place c d : ℕ) (g h k : List Event) → d ≡ c → DoesOnly (MayFill sort place) c g h → DoesOnly MaySearch d h k → DoesOnly (MayFill sort place) c g k
fills_search sort place c d g h k same a b = does_on (MayFill sort place) c d g h k same a (searched_fills sort place d h k b)

pub fills_search_on : (sort : Sort) (place c d : ℕ) (g h k : List Event) → d ≡ c → DoesOnly (MayFill sort place) c g h → DoesOnly MaySearch c h k → DoesOnly (MayFill sort place) d g k
fills_search_on sort place c d g h k same a b = does_to (MayFill sort place) c d g h k same a (searched_fills sort place c h k b)

pub search_fills_on : (sort : Sort) (place c d : ℕ) (g h k : List Event) → d ≡ c → DoesOnly MaySearch c g h → DoesOnly (MayFill sort place) d h k → DoesOnly (MayFill sort place) c g k
search_fills_on sort place c d g h k same a b = does_on (MayFill sort place) c d g h k same (searched_fills sort place c g h a) b

pub dels_search : (sort : Sort) (c d : ℕ) (g h k : List Event) → d ≡ c → DoesOnly (MayDel sort) c g h → DoesOnly MaySearch d h k → DoesOnly (MayDel sort) c g k
dels_search sort c d g h k same a b = does_on (MayDel sort) c d g h k same a (searched_dels sort d h k b)

pub search_dels_on : (sort : Sort) (c d : ℕ) (g h k : List Event) → d ≡ c → DoesOnly MaySearch c g h → DoesOnly (MayDel sort) d h k → DoesOnly (MayDel sort) c g k
search_dels_on sort c d g h k same a b = does_on (MayDel sort) c d g h k same (searched_dels sort c g h a) b

-- one event of a search
pub searches_take : (c i : ℕ) (h k : List Event) → GrowsWith c (Take c i) h k → DoesOnly MaySearch c h k
searches_take c i h k so = does_with MaySearch c (Take c i) h k so tt

pub searches_give : (c i : ℕ) (h k : List Event) → GrowsWith c (Give c i) h k → DoesOnly MaySearch c h k
searches_give c i h k so = does_with MaySearch c (Give c i) h k so tt

pub searches_call : (c i : ℕ) (op : Op) (reply : Reply) (h k : List Event) → GrowsWith c (Call c i op reply) h k → DoesOnly MaySearch c h k
searches_call c i op reply h k so = does_with MaySearch c (Call c i op reply) h k so tt

-- a node that is held and is to be split stays so while it is held

pub splits_kept : (sort : Sort) (place c : ℕ) (h k : List Event) (x : HoldsToSplit sort place h c) → StaysHeld c x.node h k → HoldsToSplit sort place k c
splits_kept sort place c h k x stays = record {
  node = x.node;
  body = x.body;
  holds = stays.turn;
  has = record { state = stays.state ∙ x.has.state; frame = stays.frame (blank_of sort) ∙ x.has.frame };
  must = x.must;
}

module _ {N : Type 0} (sort : Sort) (shows : N → Body) (place c : ℕ) (h : List Event) (x : Hand N) where
  pub holds_to_split : turn_after h x.node ≡ held c → x.live ≡ true → Matches sort shows h x → MustSplit sort.layout place (shows x.body) → HoldsToSplit sort place h c
  holds_to_split mine live matches must = let is = shown sort shows h x live matches in record {
    node = x.node;
    body = shows x.body;
    holds = mine;
    has = record { state = is.0; frame = is.1 };
    must = must;
  }
