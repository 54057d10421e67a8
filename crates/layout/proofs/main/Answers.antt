-- A form has room for more values than are counted.
use Rattle.std.proofs.Common.{arith}
use Rattle.std.proofs.lemmas.List.{length-take}
use Rattle.layout.proofs.main.Goals as goal

pub slice_bounds-print_layout-end : goal.slice_bounds-print_layout-end
slice_bounds-print_layout-end c = simp length-take (omega arith)
