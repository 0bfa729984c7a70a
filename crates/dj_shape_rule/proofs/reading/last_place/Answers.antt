use Rattle.std.proofs.Common.{sym}
use Rattle.dj_shape_rule.proofs.Places.{first_of_none, last_of_some}
use Rattle.dj_shape_rule.proofs.reading.last_place.Goals as goal

pub returns-in-None : goal.returns-in-None
returns-in-None c slots entries are = first_of_none slots c.args.places.now entries (sym c.in-None.ensures.value)

pub returns-in-Some : goal.returns-in-Some
returns-in-Some c slots entries are = last_of_some slots c.args.places.now entries c.in-Some.place.now are (sym c.in-Some.ensures.value)
