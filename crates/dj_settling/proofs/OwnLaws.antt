-- Whether the classes of the objects that the machine itself throws are there.
use Rattle.std.proofs.Common.{◌≡◌, ℕ, Bool, true, ◌++◌, map, Option, codes, sym, ap, subst, ◌∙◌}
use Rattle.std.specs.Prelude.{is_some}
use Rattle.dj_names.specs.declared.run.Raised.{Raised}
use Rattle.dj_names.specs.declared.run.Raised.TheVariants as raises
use Rattle.dj_names.specs.trusted.Values.{raised_class}
use Rattle.dj_names.specs.trusted.Types.{Name}
use Rattle.dj_model.specs.trusted.Types.{Prefix}
use Rattle.dj_model.specs.trusted.Program.{Program}
use Rattle.dj_class_table.specs.Tables.{class_number}
use Rattle.dj_declarations.specs.Files.{bare_class}
use Rattle.dj_resolution.specs.Linked.{Linked, prefix_of}
use Rattle.dj_resolution.specs.declared.linker.BaseNames.{BaseNames}
use Rattle.dj_resolution.specs.declared.linker.BaseNames.TheVariants as bases
use Rattle.dj_image.specs.Imaged.{Imaged, program_of}
use Rattle.dj_image.proofs.BareTyped.{number_bare}
use Rattle.dj_settling.specs.Settling.{HasClass, HasOwn, HasStop}

-- ---- a class

pub class_asked : (imaged : Imaged) (linked : Linked) (table : Program) (name : Name) (number : Option ℕ) (asked : Bool)
    → linked ≡ record { program = map bare_class (program_of imaged); prefix = imaged.prefix } → table ≡ linked.program → number ≡ class_number table name
    → asked ≡ is_some number → asked ≡ is_some (class_number (program_of imaged) name)
class_asked imaged linked table name number asked is own e a =
    a ∙ ap is_some (e ∙ (ap (λ (p : Program). class_number p name) (own ∙ ap (λ (l : Linked). l.program) is) ∙ number_bare (program_of imaged) name))

-- ---- exceptions

abbrev HasRaised : Imaged → Raised → Type 0
HasRaised imaged raised = HasClass (program_of imaged) (imaged.prefix ++ raised_class raised)

pub raised_there : (imaged : Imaged) (raised : Raised) (name : Name) (asked : Bool) → name ≡ imaged.prefix ++ raised_class raised
    → asked ≡ is_some (class_number (program_of imaged) name) → asked ≡ true → HasClass (program_of imaged) (imaged.prefix ++ raised_class raised)
raised_there imaged raised name asked is e so = subst (HasClass (program_of imaged)) is (sym e ∙ so)

pub all_raised : (imaged : Imaged) → HasRaised imaged raises.Arithmetic → HasRaised imaged raises.ArrayIndexOutOfBounds → HasRaised imaged raises.ArrayStore → HasRaised imaged raises.ClassCast
    → HasRaised imaged raises.NegativeArraySize → HasRaised imaged raises.NullPointer → HasRaised imaged raises.StringIndexOutOfBounds
    → (raised : Raised) → HasClass (program_of imaged) (imaged.prefix ++ raised_class raised)
all_raised imaged a b c d e f g raises.Arithmetic = a
all_raised imaged a b c d e f g raises.ArrayIndexOutOfBounds = b
all_raised imaged a b c d e f g raises.ArrayStore = c
all_raised imaged a b c d e f g raises.ClassCast = d
all_raised imaged a b c d e f g raises.NegativeArraySize = e
all_raised imaged a b c d e f g raises.NullPointer = f
all_raised imaged a b c d e f g raises.StringIndexOutOfBounds = g

-- ---- the object that stops a run

prefix_is : (imaged : Imaged) (linked : Linked) (base kind : BaseNames) → linked ≡ record { program = map bare_class (program_of imaged); prefix = imaged.prefix } → prefix_of base ≡ linked.prefix → base ≡ kind
    → prefix_of kind ≡ imaged.prefix
prefix_is imaged linked base kind is own e = sym (ap prefix_of e) ∙ (own ∙ ap (λ (l : Linked). l.prefix) is)

pub no_stop : (imaged : Imaged) (linked : Linked) (base : BaseNames) → linked ≡ record { program = map bare_class (program_of imaged); prefix = imaged.prefix } → prefix_of base ≡ linked.prefix → base ≡ bases.Plain
    → HasStop imaged.prefix (program_of imaged)
no_stop imaged linked base is own e = subst (λ (prefix : Prefix). HasStop prefix (program_of imaged)) (prefix_is imaged linked base bases.Plain is own e) tt

pub stop_there : (imaged : Imaged) (linked : Linked) (base : BaseNames) (asked : Bool) → linked ≡ record { program = map bare_class (program_of imaged); prefix = imaged.prefix } → prefix_of base ≡ linked.prefix → base ≡ bases.Sandbox
    → asked ≡ is_some (class_number (program_of imaged) (codes "djvm/Stop")) → asked ≡ true → HasStop imaged.prefix (program_of imaged)
stop_there imaged linked base asked is own e a so =
    subst (λ (prefix : Prefix). HasStop prefix (program_of imaged)) (prefix_is imaged linked base bases.Sandbox is own e) (sym a ∙ so)

pub are_own : (imaged : Imaged) → ((raised : Raised) → HasClass (program_of imaged) (imaged.prefix ++ raised_class raised)) → HasStop imaged.prefix (program_of imaged) → HasOwn imaged
are_own imaged raised stop = record { raised = raised; stop = stop }
