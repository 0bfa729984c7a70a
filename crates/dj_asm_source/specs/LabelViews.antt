-- What the code's tables of labels show.
use Rattle.std.specs.Prelude.{Bool, List, [], ◌∷◌, Option, Some, None, slice_get, unwrap_or}
use Rattle.std.specs.Cmp.Lexicographic.{slice_cmp}
use Rattle.std.specs.Ordering.{nat_cmp, is_lt}
use Rattle.dj_asm_source.specs.declared.syntax.Line as the_line
use Rattle.dj_asm_source.specs.declared.label_table.LabelPlace as the_place
use Rattle.dj_asm_source.specs.trusted.Lines.{Label}
use Rattle.dj_asm_source.specs.LineViews.{line_view}
use Rattle.dj_asm_source.specs.LabelReading.{LabelMark, defined_by}

-- the label that a line defines, or one of no line
abbrev pub label_in_line : Option the_line.Line → Label
label_in_line (Some line) = unwrap_or (defined_by (line_view line)) []
label_in_line None = []

abbrev pub label_of_mark : List the_line.Line → the_place.LabelPlace → Label
label_of_mark lines mark = label_in_line (slice_get lines mark.place)

abbrev pub mark_view : the_place.LabelPlace → LabelMark
mark_view mark = record { place = mark.place; number = mark.number }

-- a row of the table, where these are the lines
abbrev pub mark_row : List the_line.Line → the_place.LabelPlace → Label × LabelMark
mark_row lines mark = (label_of_mark lines mark, mark_view mark)

-- one label is before another, by their units
abbrev pub is_label_before : List the_line.Line → the_place.LabelPlace → the_place.LabelPlace → Bool
is_label_before lines a b = is_lt (slice_cmp nat_cmp (label_of_mark lines a) (label_of_mark lines b))

-- the mark of a line that defines a label
abbrev pub marked : Option Label → the_place.LabelPlace → List the_place.LabelPlace
marked None mark = []
marked (Some label) mark = mark ∷ []
