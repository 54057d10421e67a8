-- The figures that 01 prints are those of the definitions: computed.
use mathlib.Core.Path.{refl}
use Rattle.bits.specs.Bytes.{width}
use Rattle.sets.specs.Figures.{FiguresOf01}

pub figures_of_01 : FiguresOf01
unfolding FiguresOf01 width
figures_of_01 = refl
