-- The widths that are offered suit.
use Rattle.std.specs.Prelude.{refl}
use Rattle.std.proofs.Common.{arith}
use Rattle.ks_wide.specs.Widths.{AreWidths}

pub suit_32_64 : AreWidths 32 64 32
suit_32_64 = record { two_pairs = omega arith; four_children = omega arith; few_pairs = omega arith; few_children = omega arith; room_is = refl }

pub suit_16_64 : AreWidths 16 64 16
suit_16_64 = record { two_pairs = omega arith; four_children = omega arith; few_pairs = omega arith; few_children = omega arith; room_is = refl }
