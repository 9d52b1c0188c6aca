-- `put_short_cycles` meets its contract: the three elements, and their copies.
use mathlib.Core.Path.{◌∙◌}
use Rattle.manchester_encode.specs.Encoding.{shorts-put}
use Rattle.manchester_encode.proofs.put_short_cycles.Goals as goal

pub copy_short_elements-requires : goal.copy_short_elements-requires
copy_short_elements-requires c =
    let start = c in
    let zero = c.put_short_element in
    let one = c.put_short_element-2 in
    let mark = c.put_short_element-3 in
    (shorts-put zero.new.elements one.new.elements mark.new.elements (mark.ensures.0 ∙ one.ensures.0 ∙ zero.ensures.0) zero.ensures.1 one.ensures.1 mark.ensures.1, start.requires.0, start.requires.1, start.requires.2)
