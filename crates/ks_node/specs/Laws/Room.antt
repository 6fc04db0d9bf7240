-- Bodies that fit into one.
use Rattle.std.specs.Prelude.{◌≡◌, IsTrue, refl, Bool, false, true, ◌&&◌}
use Rattle.ks_keysets.specs.declared.Kind.{Kind}
use Rattle.ks_keysets.specs.declared.Kind.TheVariants.{NoBranch, Inner, Directory}
use Rattle.ks_keysets.specs.Layout.{Layout}
use Rattle.ks_node.specs.Body.{Body}
use Rattle.ks_node.specs.Room.{fit_kinds, fit_together}

no : false ≡ true → ⊥
no e = cc

-- two bodies that fit are of one kind
pub same_kinds : (layout : Layout) (b right : Body) → IsTrue (fit_together layout b right) → b.kind ≡ right.kind
same_kinds layout b right t = fitted b.kind right.kind (first _ _ t)
  where
    first : (x y : Bool) → (x && y) ≡ true → x ≡ true
    first true y h = refl
    first false y h = h

    fitted : (k l : Kind) → fit_kinds k l ≡ true → k ≡ l
    fitted NoBranch NoBranch e = refl
    fitted NoBranch Inner e = absurd (no e)
    fitted NoBranch Directory e = absurd (no e)
    fitted Inner NoBranch e = absurd (no e)
    fitted Inner Inner e = refl
    fitted Inner Directory e = absurd (no e)
    fitted Directory k e = absurd (no e)
