-- What is kept of the classes and the arrays that constants name is what the program says.
use Rattle.std.proofs.Common.{◌≡◌, ℕ, zero, suc, ◌+◌, ◌≤◌, Bool, true, false, cond, List, [], ◌∷◌, ◌++◌, length, replicate, Option, Some, None, IsSomeAnd, slice_get, get_or, option_and_then, unwrap_or, refl, sym, ap, ◌∙◌, inl, inr, arith}
use Rattle.std.specs.Option.{option_map}
use Rattle.std.proofs.lemmas.Bool.{ne_eqb}
use Rattle.dj_names.specs.declared.descriptor.Of.{Of}
use Rattle.dj_names.specs.declared.descriptor.Of.TheVariants as ofs
use Rattle.dj_names.specs.declared.descriptor.Ty.{Ty}
use Rattle.dj_names.specs.trusted.Types.{class_type, array_type}
use Rattle.dj_names.specs.trusted.Descriptors.{of_text, type_text}
use Rattle.dj_pool.specs.trusted.Pool.{Constant, Utf8, Integer, Float, Long, Double, Class, Text, Field, Method, InterfaceMethod, NameAndType, Handle, MethodType, Dynamic, Hole, constant_at, text_at, text_of, class_text_of, IsClassText, NamesText, IsLinked, IsPool}
use Rattle.dj_model.specs.trusted.Types.{Member}
use Rattle.dj_model.specs.trusted.Instructions.{Named, AField, AMethod, AnInterfaceMethod, Another}
use Rattle.dj_early_rules.specs.trusted.Classes.{class_text_index}
use Rattle.dj_declarations.specs.trusted.Files.{type_in, name_in}
use Rattle.dj_program.specs.trusted.Naming.{member_in, named_by, named_at, named_or_another}
use Rattle.dj_numbering.specs.Typed.{Typed, text_number, text_of_type, type_number}
use Rattle.dj_image.specs.Imaged.{Imaged, typed_of}
use Rattle.dj_image.specs.Operands.{named_class, made_class}
use Rattle.dj_image.specs.Indexed.{Holds, text_class, is_array, array_text, text_array, number_kept, class_index, kept_class, kept_array}
use Rattle.dj_image.proofs.ClassTexts as texts
use Rattle.dj_image.proofs.Indexes.{held_at}
use Rattle.dj_image.proofs.Links.{linked_index}
use Rattle.dj_image.proofs.Standing.{IsLike, text_number_like}
use Rattle.dj_image.proofs.Used.{IsThere, there, member_is, text_is}

-- ---- the texts of classes and arrays

-- the text of a class constant is its name, or a descriptor
pub data Written (text : List ℕ) : Type 0 where
  ByName : type_in text ≡ class_type text → is_array text ≡ false → Written text
  ByDescriptor : (ty : Ty) → 1 ≤ ty.dims → type_in text ≡ ty → text ≡ type_text ty → is_array text ≡ true → Written text

pub array_begins : (dims : ℕ) (of : Of) → 1 ≤ dims → is_array (replicate dims 91 ++ of_text of) ≡ true
array_begins zero of some = absurd (omega (arith, some))
array_begins (suc dims) of some = refl

pub written : (text : List ℕ) → IsClassText text → Written text
written text (inl name) = ByName (texts.name_type text name) (texts.name_no_array text name)
written text (inr array) =
    ByDescriptor array.0 array.1 (texts.array_type text array.0 array.1 array.2) array.2.text_is (ap is_array array.2.text_is ∙ array_begins array.0.dims array.0.of array.1)

array_own : (dims : ℕ) (of : Of) → 1 ≤ dims → text_of_type (record { dims = dims; of = of }) ≡ replicate dims 91 ++ of_text of
array_own dims (ofs.Base base) some = refl
array_own dims (ofs.Class name) some = ap (λ (b : Bool). cond b name (replicate dims 91 ++ of_text (ofs.Class name))) (ne_eqb dims 0 (λ e. omega (arith, some, e)))

pub own_text : (text : List ℕ) → IsClassText text → text_of_type (type_in text) ≡ text
own_text text is = elim (written text is) [
  | ByName named plain ↦ ap text_of_type named
  | ByDescriptor ty some named spelled array ↦ ap text_of_type named ∙ (array_own ty.dims ty.of some ∙ sym spelled)
]

more_text : (ty : Ty) (n : ℕ) → n ≡ suc ty.dims → text_of_type (record { dims = n; of = ty.of }) ≡ 91 ∷ type_text ty
more_text ty n e = array_own n ty.of (omega (arith, e)) ∙ ap (λ (k : ℕ). replicate k 91 ++ of_text ty.of) e

pub elements_text : (text : List ℕ) → IsClassText text → text_of_type (array_type (type_in text)) ≡ array_text text
elements_text text is = elim (written text is) [
  | ByName named plain ↦ ap (λ (ty : Ty). text_of_type (array_type ty)) named ∙ sym (ap (λ (b : Bool). cond b (91 ∷ text) (91 ∷ (76 ∷ (text ++ 59 ∷ [])))) plain)
  | ByDescriptor ty some named spelled array ↦
      let next : ty.dims + 1 ≡ suc ty.dims = omega arith in
      ap (λ (x : Ty). text_of_type (array_type x)) named
      ∙ (more_text ty (ty.dims + 1) next ∙ (ap (λ (x : List ℕ). 91 ∷ x) (sym spelled) ∙ sym (ap (λ (b : Bool). cond b (91 ∷ text) (91 ∷ (76 ∷ (text ++ 59 ∷ [])))) array)))
]

-- ---- what stands at an index

-- past the last index there is no text
slice_past : {A : Type 0} (xs : List A) (i : ℕ) → length xs ≤ i → slice_get xs i ≡ None
slice_past [] i le = refl
slice_past (x ∷ xs) zero le = absurd (omega (arith, le))
slice_past (x ∷ xs) (suc i) le = slice_past xs i (omega (arith, le))

pub no_text : (pool : List Constant) (i : ℕ) → length pool + 1 ≤ i → text_at pool i ≡ None
no_text pool zero le = refl
no_text pool (suc i) le = ap (option_and_then text_of) (slice_past pool i (omega (arith, le)))

pub kept_as : (pool : List Constant) (f : List ℕ → Option ℕ) (kept : List (Option ℕ)) → Holds (λ (i : ℕ). option_and_then f (text_at pool i)) (length pool + 1) kept
    → (i : ℕ) → get_or kept i None ≡ option_and_then f (text_at pool i)
kept_as pool f kept held = held_at (λ (i : ℕ). option_and_then f (text_at pool i)) (length pool + 1) kept held (λ i le. ap (option_and_then f) (no_text pool i le))

number_as : (kept : List (Option ℕ)) (f : ℕ → Option ℕ) → ((i : ℕ) → get_or kept i None ≡ f i) → (o : Option ℕ) → number_kept kept o ≡ option_and_then f o
number_as kept f each None = refl
number_as kept f each (Some i) = each i

-- of whatever stands at an index
at_constant : {A : Type 0} (pool : List Constant) (f : Constant → Option A) (g : Named → Option A) (o : Option Constant) → g Another ≡ None → ((k : Constant) → o ≡ Some k → g (named_by pool k) ≡ f k)
    → g (named_or_another (option_map (named_by pool) o)) ≡ option_and_then f o
at_constant pool f g None none each = none
at_constant pool f g (Some k) none each = each k refl

at_index : {A : Type 0} (pool : List Constant) → IsPool pool → (index : ℕ) (f : Constant → Option A) (g : Named → Option A) → g Another ≡ None → ((k : Constant) → IsLinked pool k → g (named_by pool k) ≡ f k)
    → g (named_at pool index) ≡ option_and_then f (constant_at pool index)
at_index pool valid index f g none each = at_constant pool f g (constant_at pool index) none (λ k at. each k (linked_index pool index k valid at))

-- ---- classes

module _ (imaged : Imaged) (types : Typed) (like : IsLike (typed_of imaged) types) where
  text_reported : (text : List ℕ) → IsClassText text → type_number (typed_of imaged) (type_in text) ≡ text_number types text
  text_reported text is = ap (text_number (typed_of imaged)) (own_text text is) ∙ text_number_like like text

  array_reported : (text : List ℕ) → IsClassText text → type_number (typed_of imaged) (array_type (type_in text)) ≡ text_number types (array_text text)
  array_reported text is = ap (text_number (typed_of imaged)) (elements_text text is) ∙ text_number_like like (array_text text)

  class_by_text : (o : Option (List ℕ)) → IsSomeAnd o IsClassText → type_number (typed_of imaged) (type_in (unwrap_or o [])) ≡ option_and_then (text_number types) o
  class_by_text None is = absurd is
  class_by_text (Some text) is = text_reported text is

  pub class_reported : (pool : List Constant) (index : ℕ) → NamesText IsClassText pool index → type_number (typed_of imaged) (type_in (name_in pool index)) ≡ text_class types pool index
  class_reported pool index is = class_by_text (text_at pool index) is

  made_by_text : (o : Option (List ℕ)) → IsSomeAnd o IsClassText
      → type_number (typed_of imaged) (array_type (type_in (unwrap_or o []))) ≡ option_and_then (λ (text : List ℕ). text_number types (array_text text)) o
  made_by_text None is = absurd is
  made_by_text (Some text) is = array_reported text is

  made_reported : (pool : List Constant) (index : ℕ) → NamesText IsClassText pool index → type_number (typed_of imaged) (array_type (type_in (name_in pool index))) ≡ text_array types pool index
  made_reported pool index is = made_by_text (text_at pool index) is

  member_reported : (pool : List Constant) → IsPool pool → (class names : ℕ) (t : IsThere pool class names) → type_number (typed_of imaged) (type_in t.text) ≡ option_and_then (text_class types pool) (option_and_then class_text_of (constant_at pool class))
  member_reported pool valid class names t =
      text_reported t.text (text_is pool valid class names t)
      ∙ sym (ap (option_and_then (text_number types)) t.spelled) ∙ sym (ap (option_and_then (text_class types pool)) t.own)

  named_one : (pool : List Constant) → IsPool pool → (k : Constant) → IsLinked pool k → named_class imaged (named_by pool k) ≡ option_and_then (text_class types pool) (class_text_index pool k)
  unfolding named_by
  named_one pool valid (Class index) is = class_reported pool index is
  named_one pool valid (Field class names) is =
      let t = there pool _ class names valid is.0 is.1 in
      ap (λ (o : Option Member). named_class imaged (named_or_another (option_map AField o))) (member_is pool class names t) ∙ member_reported pool valid class names t
  named_one pool valid (Method class names) is =
      let t = there pool _ class names valid is.0 is.1 in
      ap (λ (o : Option Member). named_class imaged (named_or_another (option_map AMethod o))) (member_is pool class names t) ∙ member_reported pool valid class names t
  named_one pool valid (InterfaceMethod class names) is =
      let t = there pool _ class names valid is.0 is.1 in
      ap (λ (o : Option Member). named_class imaged (named_or_another (option_map AnInterfaceMethod o))) (member_is pool class names t) ∙ member_reported pool valid class names t
  named_one pool valid (Utf8 t) is = refl
  named_one pool valid (Integer t) is = refl
  named_one pool valid (Float t) is = refl
  named_one pool valid (Long t) is = refl
  named_one pool valid (Double t) is = refl
  named_one pool valid (Text t) is = refl
  named_one pool valid (NameAndType a b) is = refl
  named_one pool valid (Handle a b) is = refl
  named_one pool valid (MethodType t) is = refl
  named_one pool valid (Dynamic a b) is = refl
  named_one pool valid Hole is = refl

  no_array : (f : Member → Named) → ((m : Member) → made_class imaged (f m) ≡ None) → (o : Option Member) → made_class imaged (named_or_another (option_map f o)) ≡ None
  no_array f each None = refl
  no_array f each (Some m) = each m

  made_one : (pool : List Constant) (k : Constant) → IsLinked pool k → made_class imaged (named_by pool k) ≡ option_and_then (text_array types pool) (class_text_of k)
  unfolding named_by
  made_one pool (Class index) is = made_reported pool index is
  made_one pool (Field class names) is = no_array AField (λ m. refl) (member_in pool class names)
  made_one pool (Method class names) is = no_array AMethod (λ m. refl) (member_in pool class names)
  made_one pool (InterfaceMethod class names) is = no_array AnInterfaceMethod (λ m. refl) (member_in pool class names)
  made_one pool (Utf8 t) is = refl
  made_one pool (Integer t) is = refl
  made_one pool (Float t) is = refl
  made_one pool (Long t) is = refl
  made_one pool (Double t) is = refl
  made_one pool (Text t) is = refl
  made_one pool (NameAndType a b) is = refl
  made_one pool (Handle a b) is = refl
  made_one pool (MethodType t) is = refl
  made_one pool (Dynamic a b) is = refl
  made_one pool Hole is = refl

  -- ---- what is kept

  chained : (pool : List Constant) (f : Constant → Option ℕ) (g : ℕ → Option ℕ) (o : Option Constant) → option_and_then (λ (k : Constant). option_and_then g (f k)) o ≡ option_and_then g (option_and_then f o)
  chained pool f g None = refl
  chained pool f g (Some k) = refl

  pub named_kept : (pool : List Constant) → IsPool pool → (classes : List (Option ℕ)) → Holds (text_class types pool) (length pool + 1) classes → (index : ℕ) → kept_class pool classes index ≡ named_class imaged (named_at pool index)
  named_kept pool valid classes held index =
      number_as classes (text_class types pool) (kept_as pool (text_number types) classes held) (class_index pool index)
      ∙ sym (chained pool (class_text_index pool) (text_class types pool) (constant_at pool index))
      ∙ sym (at_index pool valid index (λ k. option_and_then (text_class types pool) (class_text_index pool k)) (named_class imaged) refl (named_one pool valid))

  pub made_kept : (pool : List Constant) → IsPool pool → (arrays : List (Option ℕ)) → Holds (text_array types pool) (length pool + 1) arrays → (index : ℕ) → kept_array pool arrays index ≡ made_class imaged (named_at pool index)
  made_kept pool valid arrays held index =
      number_as arrays (text_array types pool) (kept_as pool (λ (text : List ℕ). text_number types (array_text text)) arrays held) (option_and_then class_text_of (constant_at pool index))
      ∙ sym (chained pool class_text_of (text_array types pool) (constant_at pool index))
      ∙ sym (at_index pool valid index (λ k. option_and_then (text_array types pool) (class_text_of k)) (made_class imaged) refl (made_one pool))
