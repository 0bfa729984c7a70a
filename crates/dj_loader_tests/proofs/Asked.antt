-- What is asked of an image and of a class file whose rules are judged.
use Rattle.std.proofs.Common.{◌≡◌, ℕ, zero, suc, Bool, true, false, List, [], ◌∷◌, ◌++◌, map, Some, refl, sym, ◌∙◌, subst, codes, IsTrue, lit≤}
use Rattle.std.specs.Prelude.{slice_get}
use Rattle.std.specs.Option.{is_some}
use Rattle.std.proofs.lemmas.Option.{same_Some, slice_get-map}
use Rattle.dj_names.specs.declared.descriptor.Base.TheVariants as bases
use Rattle.dj_names.specs.declared.descriptor.Ty.{Ty}
use Rattle.dj_names.specs.declared.descriptor.Desc.{Desc}
use Rattle.dj_names.specs.declared.descriptor.Desc.TheVariants as descs
use Rattle.dj_names.specs.trusted.Types.{Name, base_array}
use Rattle.dj_names.specs.trusted.Descriptors.{Describes, IsType, type_text}
use Rattle.dj_names.specs.trusted.ModifiedUtf8.{IsModifiedUtf8}
use Rattle.dj_class.specs.trusted.ClassFile.{ClassFile, IsClassFile}
use Rattle.dj_model.specs.trusted.Program.{is_static}
use Rattle.dj_model.specs.trusted.Kinds.{signature_of}
use Rattle.dj_model.specs.trusted.Linking.{FoundMethod}
use Rattle.dj_early_rules.specs.trusted.Malformed.{IsFaulty, IsRefused}
use Rattle.dj_early_rules.proofs.FileLaws.{refused_not_good}
use Rattle.dj_declarations.proofs.DescTests.{desc_in_is}
use Rattle.dj_class_table.specs.Tables.{name_of}
use Rattle.dj_numbering.specs.declared.types.MemberOf.{MemberOf}
use Rattle.dj_numbering.specs.Typed.{texts_of}
use Rattle.dj_numbering.specs.Members.{IsMethodThere}
use Rattle.dj_image.specs.Imaged.{Imaged, program_of, typed_of}
use Rattle.dj_shape.specs.Rules.{HasKinds, IsSpelled}

prefix_get : {A : Type 0} (xs ys : List A) (k : ℕ) (x : A) → slice_get xs k ≡ Some x → slice_get (xs ++ ys) k ≡ Some x
prefix_get [] ys k x e = absurd cc
prefix_get (y ∷ xs) ys zero x e = e
prefix_get (y ∷ xs) ys (suc k) x e = prefix_get xs ys k x e

-- what takes and gives an array of bytes
abbrev bytes_type : Ty
bytes_type = base_array bases.Byte

abbrev bytes_desc : Desc
bytes_desc = descs.Method (bytes_type ∷ []) (Some bytes_type)

bytes_is : IsType bytes_type
bytes_is = record { few = lit≤ tt; named = tt }

bytes_described : Describes (codes "([B)[B") bytes_desc
bytes_described = record { text_is = refl; valid = ((bytes_is, tt), bytes_is, lit≤ tt) }

-- it has no float and no double
bytes_kinds : (static : Bool) → IsTrue (is_some (signature_of static bytes_desc))
bytes_kinds true = refl
bytes_kinds false = refl

described_kinds : (static : Bool) (desc : Desc) → Describes (codes "([B)[B") desc → IsTrue (is_some (signature_of static desc))
described_kinds static desc described =
    let is : bytes_desc ≡ desc = sym (desc_in_is (codes "([B)[B") bytes_desc bytes_described) ∙ desc_in_is (codes "([B)[B") desc described in
    subst (λ (d : Desc). IsTrue (is_some (signature_of static d))) is (bytes_kinds static)

pub has_kinds : (imaged : Imaged) (method : ℕ) (reported : MemberOf) → IsMethodThere (typed_of imaged) method reported → reported.desc.now ≡ codes "([B)[B" → HasKinds imaged method
has_kinds imaged method reported there text found at =
    let same : there.found ≡ found = same_Some there.found found (sym there.there ∙ at) in
    let described : Describes (codes "([B)[B") there.found.method.desc = subst (λ (t : Name). Describes t there.found.method.desc) text there.desc in
    let kinds = described_kinds (is_static there.found.method.flags) there.found.method.desc described in
    subst (λ (f : FoundMethod). IsTrue (is_some (signature_of (is_static f.method.flags) f.method.desc))) same kinds

pub is_spelled : (imaged : Imaged) (method : ℕ) (reported : MemberOf) → IsMethodThere (typed_of imaged) method reported
    → ((name : Name) → slice_get (texts_of (typed_of imaged)) reported.class ≡ Some name → IsModifiedUtf8 name) → IsSpelled imaged method
is_spelled imaged method reported there spelled found at =
    let same : there.found ≡ found = same_Some there.found found (sym there.there ∙ at) in
    let named : slice_get (map name_of (program_of imaged)) reported.class ≡ Some there.found.class = slice_get-map name_of (program_of imaged) reported.class ∙ there.class in
    subst (λ (f : FoundMethod). IsModifiedUtf8 f.class) same
    (spelled there.found.class (prefix_get (map name_of (program_of imaged)) (map type_text imaged.arrays) reported.class there.found.class named))

-- a class file without a faulty part doesn't violate rule 1
pub whole_file : (bytes : List ℕ) (c : ClassFile) → IsClassFile bytes c → (IsFaulty c → ⊥) → IsRefused bytes → ⊥
whole_file bytes c file whole = refused_not_good bytes c (record { file = file; whole = whole })
