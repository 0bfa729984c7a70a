use Rattle.dj_image_step.proofs.TableLaws.{kept}
use Rattle.dj_image_step.proofs.tables.tables_of.Goals as goal

pub returns : goal.returns
returns c =
    kept c.args.image.now
    (record { places = c.in_ok-places.places; initialisers = c.in_ok-initialisers.initialisers; natives = c.in_ok-natives.natives; throwable = c.in-Some.throwable })
    c.requires.sound c.is_numbered.ensures c.requires.own c.requires.bounded c.in_ok-places.ensures c.in_ok-initialisers.ensures c.in_ok-natives.ensures c.in-Some.ensures
