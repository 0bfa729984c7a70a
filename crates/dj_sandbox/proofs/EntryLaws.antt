-- The entry of a run, which an image's look-ups find: its class stands before arrays, and resolution begins in it.
use Rattle.std.proofs.Common.{◌≡◌, ℕ, suc, ◌+◌, ◌<◌, Bool, true, false, List, [], ◌∷◌, ◌++◌, map, length, Option, Some, None, codes, refl, sym, ap, ◌∙◌, inl, inr, arith, if◌then◌else◌}
use Rattle.std.specs.Prelude.{slice_get, unwrap_or}
use Rattle.std.specs.Option.{option_map}
use Rattle.std.proofs.lemmas.List.{length-append, length-map}
use Rattle.std.proofs.lemmas.Option.{none-some, same_Some, slice_get_within}
use Rattle.dj_names.specs.declared.descriptor.Ty.{Ty}
use Rattle.dj_names.specs.declared.descriptor.Desc.{Desc}
use Rattle.dj_names.specs.trusted.Types.{Name, same_name, class_type}
use Rattle.dj_names.specs.trusted.Descriptors.{type_text}
use Rattle.dj_model.specs.trusted.Types.{Prefix, Member, object_name}
use Rattle.dj_model.specs.trusted.Program.{Program, Class, Method, class_at, method_of, method_at, flags_of, superclass_of, is_interface}
use Rattle.dj_model.specs.trusted.Linking.{FoundMethod, most_classes, chain_of, chain, method_or, first_method, any_method, is_plain, interfaces_above, method_chain, or_else, resolve_method, declared_of}
use Rattle.dj_model.specs.Standing.{IsEntry}
use Rattle.dj_model.proofs.MappedNames.{either}
use Rattle.dj_model.proofs.SoundLinks.{method_contained}
use Rattle.dj_class_table.specs.Tables.{name_of}
use Rattle.dj_class_table.proofs.Orders.{names_from_same}
use Rattle.dj_declarations.specs.trusted.Files.{desc_in}
use Rattle.dj_numbering.specs.Typed.{Typed, texts_of, types_of, type_at, place_of_text, text_number}
use Rattle.dj_numbering.specs.Members.{all_methods, found_method_number, number_of_method, resolved_method}
use Rattle.dj_numbering.specs.declared.types.MethodId.{MethodId}
use Rattle.dj_numbering.proofs.Numbers.{place_within}
use Rattle.dj_image.specs.Imaged.{Imaged, program_of, typed_of}
use Rattle.dj_current_method.specs.Activations.{declared_or_none, declared_at}
use Rattle.dj_invocation.specs.Choosing.{IsMethodOrNone}
use Rattle.dj_invocation.proofs.Found.{resolved_own, reported_method}
use Rattle.dj_class_set.specs.trusted.RawRules.{entry_desc, entry_of}
use Rattle.dj_class_set.proofs.RawLaws.{entry_desc_is}
use Rattle.dj_sandbox.specs.Loading.{IsEntryAt}

-- the number of a class or an array
pub number_of_type : (typed : Typed) (text : Name) (k : ℕ) → text_number typed text ≡ Some k → k < length (types_of typed)
number_of_type typed text k e =
    let class_name_type = λ (c : Class). class_type (name_of c) in
    let less = place_within (texts_of typed) text k e in
    let a : length (map name_of typed.program ++ map type_text typed.arrays) ≡ length (map name_of typed.program) + length (map type_text typed.arrays) =
    length-append (map name_of typed.program) (map type_text typed.arrays) in
    let b : length (map name_of typed.program) ≡ length typed.program = length-map typed.program name_of in
    let c : length (map type_text typed.arrays) ≡ length typed.arrays = length-map typed.arrays type_text in
    let d : length (map class_name_type typed.program ++ typed.arrays) ≡ length (map class_name_type typed.program) + length typed.arrays =
    length-append (map class_name_type typed.program) typed.arrays in
    let f : length (map class_name_type typed.program) ≡ length typed.program = length-map typed.program class_name_type in
    omega (arith, less, a, b, c, d, f)

-- ---- the number of its class

-- this many classes stand before that of the name, and at its place its type
abbrev IsPlaced : Program → List Name → List Ty → Name → Type 0
IsPlaced program texts types class =
    (place : ℕ) × (place_of_text (map name_of program ++ texts) class ≡ Some place)
    × (slice_get (map (λ (c : Class). class_type (name_of c)) program ++ types) place ≡ Some (class_type class))

class_placed : (program : Program) (texts : List Name) (types : List Ty) (class : Name) (c : Class) → class_at program class ≡ Some c → IsPlaced program texts types class
class_placed [] texts types class c e = absurd (none-some c e)
class_placed (d ∷ program) texts types class c e = elim (either (same_name d.name class)) [
  | inl same ↦ (0, rw same refl, ap (λ (n : Name). Some (class_type n)) (names_from_same d.name class same))
  | inr other ↦ let later = class_placed program texts types class c (rw other at e) in (suc later.0, rw other (ap (option_map suc) later.1), later.2)
]

class_of_method : (o : Option Class) (name : Name) (desc : Desc) (m : Method) → method_of o name desc ≡ Some m → (c : Class) × (o ≡ Some c)
class_of_method None name desc m e = absurd (none-some m e)
class_of_method (Some c) name desc m e = (c, refl)

named : (o : Option Class) (name : Name) (desc : Desc) (m : Method) → method_of o name desc ≡ Some m → (m.name ≡ name) × (m.desc ≡ desc)
named None name desc m e = absurd (none-some m e)
named (Some c) name desc m e = let is = method_contained c.methods name desc m e in (is.1, is.2)

-- ---- what its name and its descriptor resolve to

chain_step : (program : Program) (class : Name) → chain program class ≡ class ∷ chain_of 4294967295 program (superclass_of (class_at program class))
unfolding most_classes chain_of
chain_step program class = refl

abbrev entry_member : Ty → Desc → Member
entry_member ty desc = record { class = ty; name = codes "verify"; desc = desc }

module _ (program : Program) (prefix : Prefix) (class : Name) (m : Method) (there : method_at program (entry_of class) ≡ Some m) where
  abbrev found : FoundMethod
  found = record { class = class; method = m }

  first_found : (rest : List Name) → first_method program any_method (codes "verify") entry_desc (class ∷ rest) ≡ Some found
  first_found rest = ap (λ (o : Option Method). method_or class any_method o (first_method program any_method (codes "verify") entry_desc rest)) there

  chain_found : first_method program any_method (codes "verify") entry_desc (method_chain program prefix class) ≡ Some found
  chain_found = by (is_interface (flags_of (class_at program class))) where
    by : (b : Bool) → first_method program any_method (codes "verify") entry_desc (if b then class ∷ object_name prefix ∷ [] else chain program class) ≡ Some found
    by true = first_found (object_name prefix ∷ [])
    by false =
        ap (first_method program any_method (codes "verify") entry_desc) (chain_step program class)
        ∙ first_found (chain_of 4294967295 program (superclass_of (class_at program class)))

  own_resolved : resolve_method program prefix (entry_member (class_type class) entry_desc) ≡ Some found
  unfolding resolve_method
  own_resolved = ap (λ (o : Option FoundMethod). or_else o (first_method program is_plain (codes "verify") entry_desc (interfaces_above program class))) chain_found

  entry_resolved : (ty : Ty) (desc : Desc) → ty ≡ class_type class → desc ≡ entry_desc → resolve_method program prefix (entry_member ty desc) ≡ Some found
  entry_resolved ty desc same is =
      ap (λ (t : Ty). resolve_method program prefix (entry_member t desc)) same
      ∙ (ap (λ (d : Desc). resolve_method program prefix (entry_member (class_type class) d)) is ∙ own_resolved)

  declared_is : declared_of found ≡ entry_of class
  declared_is =
      let is = named (class_at program class) (codes "verify") entry_desc m there in
      λ i. record { class = class; name = is.0 i; desc = is.1 i }

-- ---- what is found

module _ (imaged : Imaged) (class : Name) (is : IsEntry (program_of imaged) (entry_of class)) where
  abbrev its_class : (c : Class) × (class_at (program_of imaged) class ≡ Some c)
  its_class = class_of_method (class_at (program_of imaged) class) (codes "verify") entry_desc is.method is.there

  placed : IsPlaced (program_of imaged) (map type_text imaged.arrays) imaged.arrays class
  placed = class_placed (program_of imaged) (map type_text imaged.arrays) imaged.arrays class its_class.0 its_class.1

  -- its class is
  pub has_class : text_number (typed_of imaged) class ≡ None → ⊥
  has_class none = none-some placed.0 (sym none ∙ placed.1)

  resolves : (k : ℕ) → text_number (typed_of imaged) class ≡ Some k
      → resolved_method (typed_of imaged) k (codes "verify") (codes "([B)[B") ≡ Some (record { class = class; method = is.method })
  resolves k e =
      let same : placed.0 ≡ k = same_Some placed.0 k (sym placed.1 ∙ e) in
      let at : slice_get (types_of (typed_of imaged)) k ≡ Some (class_type class) = ap (slice_get (types_of (typed_of imaged))) (sym same) ∙ placed.2 in
      entry_resolved (program_of imaged) imaged.prefix class is.method is.there (type_at (typed_of imaged) k) (desc_in (codes "([B)[B"))
      (ap (λ (o : Option Ty). unwrap_or o (class_type [])) at) entry_desc_is

  abbrev pub IsEntryOrNone : Option MethodId → Type 0
  IsEntryOrNone None = ⊥
  IsEntryOrNone (Some id) = IsEntryAt imaged class id.number

  reported : (id : Option MethodId) → IsMethodOrNone (program_of imaged) id (Some (record { class = class; method = is.method })) → IsEntryOrNone id
  unfolding declared_at
  reported None method = absurd method
  reported (Some id) method = record {
    there = slice_get_within (all_methods (program_of imaged)) id.number (record { class = class; method = is.method }) method;
    named = ap declared_or_none method ∙ declared_is (program_of imaged) imaged.prefix class is.method is.there;
  }

  -- and so is the method of its name and its descriptor
  pub entry_reported : (k : ℕ) (id : Option MethodId) → text_number (typed_of imaged) class ≡ Some k
      → option_map number_of_method id ≡ found_method_number (program_of imaged) (resolved_method (typed_of imaged) k (codes "verify") (codes "([B)[B")) → IsEntryOrNone id
  entry_reported k id e numbered = reported id (reported_method (program_of imaged) id (Some (record { class = class; method = is.method }))
      (λ f same. resolved_own (program_of imaged) imaged.prefix (entry_member (type_at (typed_of imaged) k) (desc_in (codes "([B)[B"))) f (resolves k e ∙ same))
      (numbered ∙ ap (found_method_number (program_of imaged)) (resolves k e)))
