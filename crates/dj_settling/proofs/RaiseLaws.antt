-- The classes of exceptions of the machine's own, and their throws.
use Rattle.std.proofs.Common.{◌≡◌, ◌<◌, ℕ, suc, Bool, true, false, List, [], ◌∷◌, ◌++◌, length, map, Option, Some, None, IsTrue, if◌then◌else◌, refl, ap, subst, ◌∙◌}
use Rattle.std.specs.Prelude.{is_some, unwrap_or, Result, Ok, Err, IfOk}
use Rattle.std.specs.Option.{option_map}
use Rattle.std.proofs.lemmas.Bool.{false≢true}
use Rattle.std.proofs.lemmas.Option.{none-some}
use Rattle.dj_names.specs.declared.run.Raised.{Raised}
use Rattle.dj_names.specs.declared.run.Charge.{Charge}
use Rattle.dj_names.specs.declared.descriptor.Ty.{Ty}
use Rattle.dj_names.specs.trusted.Heaps.{Instance}
use Rattle.dj_names.specs.trusted.Values.{raised_class}
use Rattle.dj_names.specs.trusted.Types.{Name, same_name, class_type}
use Rattle.dj_names.specs.trusted.Descriptors.{type_text}
use Rattle.dj_model.specs.trusted.Types.{Prefix, raised_type}
use Rattle.dj_model.specs.trusted.Program.{Program}
use Rattle.dj_model.specs.trusted.State.{Terms, State}
use Rattle.dj_model.specs.trusted.Step.{throw_new}
use Rattle.dj_heap.specs.Heaps.{LimitedHeap}
use Rattle.dj_stack.specs.Frames.{StackFrame}
use Rattle.dj_class_table.specs.Tables.{name_of, class_number}
use Rattle.dj_class_table.proofs.Numbered.{name_at-number, class_number-within}
use Rattle.dj_declarations.specs.Files.{bare_class}
use Rattle.dj_resolution.specs.Linked.{Linked, prefix_of}
use Rattle.dj_resolution.specs.declared.linker.BaseNames.{BaseNames}
use Rattle.dj_numbering.specs.Typed.{place_of_text, text_number}
use Rattle.dj_numbering.proofs.Reported.{type_of_class}
use Rattle.dj_image.specs.Imaged.{Imaged, program_of, typed_of}
use Rattle.std.specs.declared.alloc.AllocError.{AllocError}
use Rattle.dj_settling.specs.declared.settled.Settled.{Settled}
use Rattle.dj_settling.specs.Settling.{HasClass, HasOwn, IsClassOf, Settles, throwing_new, raising}
use Rattle.dj_settling.proofs.EndLaws.{plain_type}

-- ---- the number of a class

place_of_class : (program : Program) (texts : List Name) (name : Name) (k : ℕ) → class_number program name ≡ Some k → place_of_text (map name_of program ++ texts) name ≡ Some k
place_of_class [] texts name k e = absurd (none-some k e)
place_of_class (c ∷ program) texts name k e = by (same_name c.name name) (class_number program name) (place_of_class program texts name) e where
  by : (b : Bool) (n : Option ℕ) → ((j : ℕ) → n ≡ Some j → place_of_text (map name_of program ++ texts) name ≡ Some j)
      → (if b then Some 0 else option_map suc n) ≡ Some k → (if b then Some 0 else option_map suc (place_of_text (map name_of program ++ texts) name)) ≡ Some k
  by true n later e = e
  by false None later e = absurd cc
  by false (Some j) later e = ap (option_map suc) (later j refl) ∙ e

pub class_of_number : (imaged : Imaged) (name : Name) (k : ℕ) → class_number (program_of imaged) name ≡ Some k → IsClassOf imaged (class_type name) k
class_of_number imaged name k e =
    let lt : k < length (program_of imaged) = class_number-within (program_of imaged) name k e in
    record {
      number = plain_type imaged k lt;
      is = type_of_class (program_of imaged) imaged.arrays k lt ∙ ap (λ (o : Option Name). class_type (unwrap_or o [])) (name_at-number (program_of imaged) name k e);
    }

number_reported : (imaged : Imaged) (name : Name) → HasClass (program_of imaged) name → (k : ℕ) × (class_number (program_of imaged) name ≡ Some k)
number_reported imaged name has = by (class_number (program_of imaged) name) refl has where
  by : (o : Option ℕ) → class_number (program_of imaged) name ≡ o → IsTrue (is_some o) → (k : ℕ) × (class_number (program_of imaged) name ≡ Some k)
  by None e some = absurd (false≢true some)
  by (Some k) e some = (k, e)

pub raised_named : (imaged : Imaged) (linked : Linked) (base : BaseNames) (raised : Raised) (name : Name) → linked ≡ record { program = map bare_class (program_of imaged); prefix = imaged.prefix }
    → prefix_of base ≡ linked.prefix → name ≡ prefix_of base ++ raised_class raised → name ≡ imaged.prefix ++ raised_class raised
raised_named imaged linked base raised name is own e = e ∙ ap (λ (prefix : Prefix). prefix ++ raised_class raised) (own ∙ ap (λ (l : Linked). l.prefix) is)

pub class_reported : (imaged : Imaged) (raised : Raised) (name : Name) (class : ℕ) → HasOwn imaged → name ≡ imaged.prefix ++ raised_class raised → Some class ≡ text_number (typed_of imaged) name
    → IsClassOf imaged (raised_type imaged.prefix raised) class
class_reported imaged raised name class own is e =
    let found = number_reported imaged (imaged.prefix ++ raised_class raised) (own.raised raised) in
    let place = place_of_class (program_of imaged) (map type_text imaged.arrays) (imaged.prefix ++ raised_class raised) found.0 found.1 in
    let same : Some class ≡ Some found.0 = e ∙ (ap (text_number (typed_of imaged)) is ∙ place) in
    let number : found.0 ≡ class = cc in
    subst (IsClassOf imaged (raised_type imaged.prefix raised)) number (class_of_number imaged (imaged.prefix ++ raised_class raised) found.0 found.1)

pub class_lacks : (imaged : Imaged) (raised : Raised) (name : Name) → HasOwn imaged → name ≡ imaged.prefix ++ raised_class raised → None ≡ text_number (typed_of imaged) name → ⊥
class_lacks imaged raised name own is e =
    let found = number_reported imaged (imaged.prefix ++ raised_class raised) (own.raised raised) in
    let place = place_of_class (program_of imaged) (map type_text imaged.arrays) (imaged.prefix ++ raised_class raised) found.0 found.1 in
    none-some found.0 (e ∙ (ap (text_number (typed_of imaged)) is ∙ place))

-- ---- its throw

pub raised_new : (imaged : Imaged) (exceeded : Option Charge) (raised : Raised) (class : ℕ) (before after : LimitedHeap) (old new : List StackFrame) (result : Result Settled AllocError)
    → IsClassOf imaged (raised_type imaged.prefix raised) class → IfOk result (λ settled. Settles imaged exceeded (throwing_new imaged class 2) before after old new settled)
    → IfOk result (λ settled. Settles imaged exceeded (raising imaged raised) before after old new settled)
raised_new imaged exceeded raised class before after old new (Err e) of settles = tt
raised_new imaged exceeded raised class before after old new (Ok result) of settles =
    subst (λ (ty : Ty). Settles imaged exceeded (λ (terms : Terms) (s : State). throw_new (program_of imaged) imaged.prefix terms s (Instance ty (0 ∷ 0 ∷ []))) before after old new result) of.is settles
