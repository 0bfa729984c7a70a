-- What is made once of an image.
use Rattle.std.proofs.Common.{◌≡◌, ◌∙◌, ℕ, Option, Some, refl, ap, subst}
use Rattle.std.specs.Prelude.{slice_get, IfSome}
use Rattle.dj_names.specs.trusted.Types.{Name, class_type}
use Rattle.dj_model.specs.trusted.Types.{throwable_name}
use Rattle.dj_model.specs.trusted.Program.{Program}
use Rattle.dj_model.specs.Sound.{IsSound}
use Rattle.dj_class_table.specs.Tables.{class_number}
use Rattle.dj_resolution.specs.Linked.{Linked, prefix_of}
use Rattle.dj_resolution.specs.declared.linker.BaseNames.{BaseNames}
use Rattle.dj_numbering.specs.Typed.{types_of}
use Rattle.dj_image.specs.Imaged.{Imaged, IsNumbered, program_of, typed_of}
use Rattle.dj_image.proofs.Bare.{bare_program}
use Rattle.dj_initialisation.specs.Places.{ArePlaces}
use Rattle.dj_initialisation.specs.Initialisers.{AreInitialisers}
use Rattle.dj_initialisation.proofs.StartLaws.{texts_of_numbered}
use Rattle.dj_invocation.specs.Natives.{AreNatives}
use Rattle.dj_invocation.proofs.NativeFacts.{class_reported}
use Rattle.dj_settling.specs.Settling.{HasOwn}
use Rattle.dj_image_step.specs.Running.{IsKept, Kept}
use Rattle.dj_image_step.specs.Short.{AreBounded}

pub kept : (imaged : Imaged) (k : Kept) → IsSound (program_of imaged) imaged.prefix → IsNumbered imaged → HasOwn imaged → AreBounded imaged → ArePlaces (program_of imaged) k.places → AreInitialisers imaged k.initialisers
    → AreNatives imaged k.natives → slice_get (types_of (typed_of imaged)) k.throwable ≡ Some (class_type (throwable_name imaged.prefix)) → IsKept imaged k
kept imaged k sound numbered own bounded places initialisers natives throwable = record {
  sound = sound;
  own = own;
  texts = texts_of_numbered imaged numbered;
  bounded = bounded;
  places = places;
  initialisers = initialisers;
  natives = natives;
  throwable = throwable;
}

pub throwable_reported : (imaged : Imaged) (linked : Linked) (table : Program) (base : BaseNames) (name : Name) (result : Option ℕ)
    → linked ≡ record { program = bare_program (program_of imaged); prefix = imaged.prefix } → prefix_of base ≡ linked.prefix → table ≡ linked.program → name ≡ throwable_name (prefix_of base)
    → result ≡ class_number table name → IfSome result (λ class. slice_get (types_of (typed_of imaged)) class ≡ Some (class_type (throwable_name imaged.prefix)))
throwable_reported imaged linked table base name result is own t named e =
    subst (λ (n : Name). IfSome result (λ class. slice_get (types_of (typed_of imaged)) class ≡ Some (class_type n)))
    (named ∙ ap throwable_name (own ∙ ap (λ (l : Linked). l.prefix) is)) (class_reported imaged linked table 0 name result refl is t e)
