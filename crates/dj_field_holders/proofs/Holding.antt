-- Which classes have the fields that one of them declares: the look-ups of an image, in its program without code, answer it.
use Rattle.std.proofs.Common.{◌≡◌, ◌<◌, ◌≤◌, ℕ, zero, suc, ◌&&◌, false, List, [], ◌∷◌, map, length, Option, Some, None, refl, sym, ap, ◌∙◌, arith, IsTrue, ◌⊎◌, inl, inr}
use Rattle.std.specs.Prelude.{nat_le, slice_get, unwrap_or}
use Rattle.std.specs.Option.{option_map}
use Rattle.std.proofs.lemmas.Bool.{and_parts}
use Rattle.std.proofs.lemmas.Bool.Decides.{nat_tests}
use Rattle.std.proofs.lemmas.List.{length-map}
use Rattle.std.proofs.lemmas.Option.{slice_get_past, slice_get-get_or, unwrap_or-slice_get}
use Rattle.dj_names.specs.declared.descriptor.Of.{Of}
use Rattle.dj_names.specs.declared.descriptor.Ty.{Ty}
use Rattle.dj_names.specs.trusted.Types.{Name, class_type}
use Rattle.dj_model.specs.trusted.Program.{Program, Class, class_at, superclass_of}
use Rattle.dj_model.specs.trusted.Linking.{chain, chain_of, is_among, most_classes}
use Rattle.dj_declarations.specs.Files.{bare_class}
use Rattle.dj_class_table.specs.Tables.{name_at, name_of}
use Rattle.dj_resolution.specs.Linked.{Linked, class_name}
use Rattle.dj_numbering.specs.Typed.{types_of, is_known_of, AreArrays}
use Rattle.dj_numbering.proofs.Reported.{types_among, type_among, type_of_class, known_at}
use Rattle.dj_member_effects.specs.Numbering.{among_above}
use Rattle.dj_image.specs.Imaged.{Imaged, program_of, typed_of}
use Rattle.dj_image.specs.Numbering.{AreSettled}
use Rattle.dj_image.proofs.Bare.{class_bare}
use Rattle.dj_image.proofs.BareTyped.{name_at_bare}
use Rattle.dj_field_holders.specs.Holders.{has_named, holds}

-- ---- superclasses in the program without code

super_bare : (c : Option Class) → superclass_of (option_map bare_class c) ≡ superclass_of c
super_bare None = refl
super_bare (Some c) = refl

chain_bare : (n : ℕ) (program : Program) (class : Option Name) → chain_of n (map bare_class program) class ≡ chain_of n program class
unfolding chain_of
chain_bare zero program class = refl
chain_bare (suc n) program None = refl
chain_bare (suc n) program (Some class) =
    ap (λ (above : Option Name). class ∷ chain_of n (map bare_class program) above) (ap superclass_of (class_bare program class) ∙ super_bare (class_at program class))
    ∙ ap (λ (names : List Name). class ∷ names) (chain_bare n program (superclass_of (class_at program class)))

name_bare : (program : Program) (class : ℕ) → class_name (map bare_class program) class ≡ class_name program class
name_bare program class = ap (λ (o : Option Name). unwrap_or o []) (name_at_bare program class)

among_bare : (program : Program) (class declaring : ℕ)
    → is_among (chain (map bare_class program) (class_name (map bare_class program) class)) (class_name (map bare_class program) declaring)
    ≡ is_among (chain program (class_name program class)) (class_name program declaring)
among_bare program class declaring =
    ap (λ (name : Name). is_among (chain (map bare_class program) name) (class_name (map bare_class program) declaring)) (name_bare program class)
    ∙ (ap (is_among (chain (map bare_class program) (class_name program class))) (name_bare program declaring)
    ∙ ap (λ (names : List Name). is_among names (class_name program declaring)) (chain_bare most_classes program (Some (class_name program class))))

-- ---- a class, and an array

name_there : (program : Program) (class : ℕ) → class < length program → name_at program class ≡ Some (class_name program class)
name_there [] class less = absurd (omega (arith, less))
name_there (c ∷ program) zero less = refl
name_there (c ∷ program) (suc class) less = name_there program class (omega (arith, less))

array_there : (program : Program) (arrays : List Ty) (class : ℕ) → length program ≤ class → class < length (types_among program arrays)
    → (k : ℕ) × (slice_get arrays k ≡ Some (type_among program arrays class))
array_there [] arrays class past less =
    (class, slice_get-get_or arrays class (class_type []) less ∙ ap Some (sym (unwrap_or-slice_get arrays class (class_type []))))
array_there (c ∷ program) arrays zero past less = absurd (omega (arith, past))
array_there (c ∷ program) arrays (suc class) past less = array_there program arrays class (omega (arith, past)) (omega (arith, less))

some_dims : (program : Program) (arrays : List Ty) → AreArrays program arrays → (k : ℕ) (ty : Ty) → slice_get arrays k ≡ Some ty → 1 ≤ ty.dims
some_dims program arrays are k ty e =
    let parts = and_parts (nat_le 1 ty.dims) (nat_le ty.dims 255 && is_known_of program ty.of) (known_at program arrays are.each k ty e) in
    at_least ty.dims parts.0 where
      at_least : (dims : ℕ) → IsTrue (nat_le 1 dims) → 1 ≤ dims
      at_least dims t = grind (arith, nat_tests)

none_above : (program : Program) (name : Name) (levels dims : ℕ) (of : Of) → 1 ≤ dims → among_above program name levels dims of ≡ false
none_above program name levels zero of some = absurd (omega (arith, some))
none_above program name levels (suc dims) of some = refl

-- ---- what is known of both

module _ (imaged : Imaged) where
  array_holds : AreSettled (typed_of imaged) → (name : Option Name) (class : ℕ) → length (program_of imaged) ≤ class → class < length (types_of (typed_of imaged))
      → has_named imaged name class ≡ false
  array_holds settled None class past less = refl
  array_holds settled (Some name) class past less =
      let there = array_there (program_of imaged) imaged.arrays class past less in
      let ty : Ty = type_among (program_of imaged) imaged.arrays class in
      none_above (program_of imaged) name most_classes ty.dims ty.of (some_dims (program_of imaged) imaged.arrays settled.arrays there.0 ty there.1)

  -- no array has fields, and none declares any
  pub array_reported : AreSettled (typed_of imaged) → (class declaring : ℕ) → class < length (types_of (typed_of imaged))
      → length (program_of imaged) ≤ class ⊎ length (program_of imaged) ≤ declaring → false ≡ holds imaged declaring class
  array_reported settled class declaring less (inl past) = sym (array_holds settled (name_at (program_of imaged) declaring) class past less)
  array_reported settled class declaring less (inr past) =
      ap (λ (c : Option Class). has_named imaged (option_map name_of c) class) (sym (slice_get_past (program_of imaged) declaring past))

  pub class_reported : (class declaring : ℕ) (linked : Linked) → linked ≡ record { program = map bare_class (program_of imaged); prefix = imaged.prefix }
      → class < length (program_of imaged) → declaring < length (program_of imaged)
      → is_among (chain linked.program (class_name linked.program class)) (class_name linked.program declaring) ≡ holds imaged declaring class
  class_reported class declaring linked is known declared =
      let program : Program = program_of imaged in
      ap (λ (l : Linked). is_among (chain l.program (class_name l.program class)) (class_name l.program declaring)) is
      ∙ (among_bare program class declaring
      ∙ (sym (ap (λ (ty : Ty). among_above program (class_name program declaring) most_classes ty.dims ty.of) (type_of_class program imaged.arrays class known))
      ∙ sym (ap (λ (o : Option Name). has_named imaged o class) (name_there program declaring declared))))

-- ---- counts

pub counted : (imaged : Imaged) (linked : Linked) (table : Program) (count : ℕ) → linked ≡ record { program = map bare_class (program_of imaged); prefix = imaged.prefix }
    → table ≡ linked.program → count ≡ length table → count ≡ length (program_of imaged)
counted imaged linked table count is same many =
    many ∙ (ap (length {A = Class}) (same ∙ ap (λ (l : Linked). l.program) is) ∙ length-map (program_of imaged) bare_class)
