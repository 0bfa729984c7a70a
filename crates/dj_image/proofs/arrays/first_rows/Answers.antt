use Rattle.dj_image.proofs.RowFacts.{no_rows}
use Rattle.dj_image.proofs.arrays.first_rows.Goals as goal

pub returns : goal.returns
returns c = c.in_ok-add_rows-2.ensures.rows _ (c.in_ok-add_rows.ensures.rows _ (no_rows c.new-rows.result c.new-rows.ensures.empty))
