use Rattle.std.proofs.Common.{List, map, sym, subst}
use Rattle.dj_class.specs.Views.{class_of}
use Rattle.dj_model.specs.trusted.Program.{Program}
use Rattle.dj_program.specs.trusted.Programs.{IsProgramIn}
use Rattle.dj_image.specs.Parts.{FitClasses}
use Rattle.dj_image.specs.Sources.{Source, program_of_sources}
use Rattle.dj_loader.specs.Loads.{all_classes}
use Rattle.dj_loader.specs.Parting.{IsTableOf, ArePartsOf}
use Rattle.dj_loader.proofs.Moved.{rise_of_table}
use Rattle.dj_loader.proofs.Sourced.{few_members, program_with_parts}
use Rattle.dj_loader.proofs.loading.image_from.Goals as goal

pub image_of-requires-clause-fit : goal.image_of-requires-clause-fit
image_of-requires-clause-fit c =
    let library = c.requires.fits.0 in
    let of = subst (IsTableOf library (map class_of c.args.views.now)) (sym c.classes.ensures) c.requires.fits.1 in
    subst (λ (program : Program). FitClasses program c.in_ok-parts.parts.items) c.classes.ensures (c.in_ok-parts.ensures.parts library of).fit

pub image_of-requires-clause-few : goal.image_of-requires-clause-few
image_of-requires-clause-few c =
    let library = c.requires.fits.0 in
    let of = c.requires.fits.1 in
    let files = map class_of c.args.views.now in
    let parts = c.in_ok-parts.parts.items in
    let are = subst (λ (program : Program). ArePartsOf library files program parts) c.classes.ensures
    (c.in_ok-parts.ensures.parts library (subst (IsTableOf library files) (sym c.classes.ensures) of)) in
    few_members (all_classes library files) c.args.linker.program of.is parts are.fit of.few

pub returns-clause-program : goal.returns-clause-program
returns-clause-program c library of =
    let files = map class_of c.args.views.now in
    let parts = c.in_ok-parts.parts.items in
    let are = subst (λ (program : Program). ArePartsOf library files program parts) c.classes.ensures
    (c.in_ok-parts.ensures.parts library (subst (IsTableOf library files) (sym c.classes.ensures) of)) in
    subst (λ (all : List Source). IsProgramIn library files (program_of_sources all)) (sym c.in_ok-image_of.ensures.sources)
    (program_with_parts library files c.args.linker.program parts of.is (rise_of_table (all_classes library files) c.args.linker.program of.is of.loadable.differ) are)
