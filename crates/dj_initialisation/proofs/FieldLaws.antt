-- The constants of fields, of classes, and of classes above each other.
use Rattle.std.proofs.Common.{◌≡◌, ℕ, ℤ, zero, suc, ◌+◌, ◌-◌, ◌<◌, ◌≤◌, Bool, true, false, List, [], ◌∷◌, ◌++◌, length, drop, get_or, reverse, Option, Some, None, refl, sym, ap, subst, ◌∙◌, arith, inl, inr, ◌⊎◌, if◌then◌else◌}
use Rattle.std.specs.Prelude.{Contains, slice_get, nat_lt, unwrap_or}
use Rattle.std.specs.List.{flat_map}
use Rattle.std.specs.Option.{option_map}
use Rattle.std.proofs.lemmas.Bool.{ltb-true, ltb-false}
use Rattle.std.proofs.lemmas.List.{drop_more, drop_all, get_or-reverse, length-reverse}
use Rattle.std.proofs.lemmas.Option.{none-some, same_Some, get_or_from_slice_get, slice_get_within, slice_get-map}
use Rattle.dj_names.specs.trusted.Types.{Name}
use Rattle.dj_model.specs.trusted.Program as programs
use Rattle.dj_model.specs.trusted.Program.{Program, Class, Field, Constant, is_static, fields_of, class_at}
use Rattle.dj_model.specs.trusted.Linking.{FoundField, place_of_static}
use Rattle.dj_model.specs.Sound.{IsProgram}
use Rattle.dj_model.specs.trusted.State.{State, Terms}
use Rattle.dj_model.specs.trusted.Initialisation.{Initialised, Ready, then_ready, with_constant, with_constants, constants_of}
use Rattle.dj_class_table.specs.Tables.{fields_at}
use Rattle.dj_resolution.specs.Linked.{class_name}
use Rattle.dj_resolution.proofs.Resolution.{DoNamesDiffer, class_of_name}
use Rattle.dj_numbering.specs.Members.{all_fields, fields_in, fields_before, IsFieldThere}
use Rattle.dj_numbering.specs.declared.types.MemberOf.{MemberOf}
use Rattle.dj_numbering.proofs.Starts.{some_there}
use Rattle.dj_image.specs.Imaged.{Imaged, program_of, typed_of, IsValue}
use Rattle.dj_image.specs.Codes.{IsConstantAt}
use Rattle.dj_image.specs.declared.operand.Operand.{Operand}
use Rattle.dj_image.specs.declared.operand.Operand.TheVariants as operands
use Rattle.dj_initialisation.specs.declared.filled.Filled.{Filled}
use Rattle.dj_initialisation.specs.declared.filled.Filled.TheVariants as filled
use Rattle.dj_initialisation.specs.Store.{Store, stored, IsStore, AreTexts, Leads, Fills, FillsConstant, FillsField, field_constant, constants_from, class_constants, all_constants}
use Rattle.dj_initialisation.proofs.Members.{found_field, field_of_number}
use Rattle.dj_initialisation.specs.Places.{Places, ArePlaces}
use Rattle.dj_initialisation.proofs.PlaceLaws.{place_reported, place_within}
use Rattle.dj_initialisation.proofs.StoreLaws.{leads_on, leads_to_full, nothing_reported, constant_is}

prefix_or_rest : {A : Type 0} (xs ys : List A) (n : ℕ) (x : A) → slice_get (xs ++ ys) n ≡ Some x → (slice_get xs n ≡ Some x) ⊎ ((k : ℕ) × (slice_get ys k ≡ Some x))
prefix_or_rest [] ys n x e = inr (n, e)
prefix_or_rest (y ∷ xs) ys zero x e = inl e
prefix_or_rest (y ∷ xs) ys (suc n) x e = prefix_or_rest xs ys n x e

-- ---- a field by its number

-- the field at a place of a class, and its number
pub record IsFieldOf (program : Program) (class at number : ℕ) : Type 0 where
  pub field : Field
  pub stands : slice_get (fields_at program class) at ≡ Some field
  pub there : slice_get (all_fields program) number ≡ Some (record { class = class_name program class; field = field })

-- what the number is, where there is one
pub reported_if : (at long first : ℕ) (number : Option ℕ) → number ≡ (if nat_lt at long then Some (first + at) else None) → (n : ℕ) → number ≡ Some n → (at < long) × (n ≡ first + at)
reported_if at long first number is n reported = by (nat_lt at long) refl (sym reported ∙ is) where
  by : (b : Bool) → nat_lt at long ≡ b → Some n ≡ (if b then Some (first + at) else None) → (at < long) × (n ≡ first + at)
  by true lt e = (ltb-true at long lt, same_Some n (first + at) e)
  by false lt e = absurd (none-some n (sym e))

pub unreported_if : (at long first : ℕ) (number : Option ℕ) → number ≡ (if nat_lt at long then Some (first + at) else None) → number ≡ None → long ≤ at
unreported_if at long first number is reported = by (nat_lt at long) refl (sym reported ∙ is) where
  by : (b : Bool) → nat_lt at long ≡ b → None ≡ (if b then Some (first + at) else None) → long ≤ at
  by true lt e = absurd (none-some (first + at) e)
  by false lt e = ltb-false at long lt

pub field_of : (program : Program) (class at number : ℕ) → class < length program → at < length (fields_at program class) → number ≡ fields_before program class + at → IsFieldOf program class at number
field_of program class at number within lt is =
    let c : (c : Class) × (slice_get program class ≡ Some c) = some_there program class within in
    let long : length (fields_at program class) ≡ length c.0.fields = ap (λ (o : Option Class). length (fields_of o)) c.1 in
    let f : (f : Field) × (slice_get (fields_at program class) at ≡ Some f) = some_there (fields_at program class) at lt in
    let stands : slice_get c.0.fields at ≡ Some f.0 = sym (ap (λ (o : Option Class). slice_get (fields_of o) at) c.1) ∙ f.1 in
    let name : class_name program class ≡ c.0.name = ap (λ (o : Option Class). unwrap_or (option_map (λ (x : Class). x.name) o) []) c.1 in
    record {
      field = f.0;
      stands = f.1;
      there = ap (slice_get (all_fields program)) is ∙ field_of_number program class at c.0 c.1 (omega (arith, lt, long)) ∙ ap (option_map (found_field c.0)) stands
          ∙ ap (λ (n : Name). Some (record { class = n; field = f.0 })) (sym name);
    }

within_program : (program : Program) (class at : ℕ) → at < length (fields_at program class) → class < length program
within_program program class at lt = by (slice_get program class) refl lt where
  by : (o : Option Class) → slice_get program class ≡ o → at < length (fields_of o) → class < length program
  by None e lt = absurd (omega (arith, lt))
  by (Some c) e lt = slice_get_within program class c e

pub field_reported : (program : Program) (class at : ℕ) (number : Option ℕ) → number ≡ (if nat_lt at (length (fields_at program class)) then Some (fields_before program class + at) else None)
    → (n : ℕ) → number ≡ Some n → IsFieldOf program class at n
field_reported program class at number is n reported =
    let parts = reported_if at (length (fields_at program class)) (fields_before program class) number is n reported in
    field_of program class at n (within_program program class at parts.0) parts.0 parts.1

pub number_within : (program : Program) (class at n : ℕ) → IsFieldOf program class at n → n < length (all_fields program)
number_within program class at n f = slice_get_within (all_fields program) n _ f.there

pub same_flags : (imaged : Imaged) (class at n : ℕ) (reported : MemberOf) (f : IsFieldOf (program_of imaged) class at n) → IsFieldThere (typed_of imaged) n reported → reported.flags ≡ f.field.flags
same_flags imaged class at n reported f there = there.flags ∙ ap (λ (x : FoundField). x.field.flags) (same_Some there.found _ (sym there.there ∙ f.there))

-- ---- the constant of a field

-- a field of the program begins with its text
pub value_of : (imaged : Imaged) (field : ℕ) (found : FoundField) (units : List ℕ) → slice_get (all_fields (program_of imaged)) field ≡ Some found
    → found.field.constant ≡ Some (programs.Text units) → IsValue (program_of imaged) units
unfolding all_fields
value_of imaged field found units there begins = from (program_of imaged) field there (λ c is. is) where
  within : (c : Class) (n : ℕ) → slice_get (fields_in c) n ≡ Some found → Contains c.fields found.field
  within c n e = by (slice_get c.fields n) refl (sym (slice_get-map (found_field c) c.fields n) ∙ e) where
    by : (o : Option Field) → slice_get c.fields n ≡ o → option_map (found_field c) o ≡ Some found → Contains c.fields found.field
    by None is e = absurd (none-some found e)
    by (Some f) is e =
        let same : f ≡ found.field = ap (λ (x : FoundField). x.field) (same_Some (found_field c f) found e) in
        subst (Contains c.fields) same (n, slice_get_within c.fields n f is, get_or_from_slice_get c.fields n f f is)

  from : (classes : Program) (n : ℕ) → slice_get (flat_map fields_in classes) n ≡ Some found → ((c : Class) → Contains classes c → Contains (program_of imaged) c) → IsValue (program_of imaged) units
  from [] n e all = absurd (none-some found e)
  from (c ∷ classes) n e all = elim (prefix_or_rest (fields_in c) (flat_map fields_in classes) n found e) [
    | inl here ↦ record { class = c; there = all c (0, omega arith, refl); field = found.field; own = within c n here; begins = begins }
    | inr later ↦ from classes later.0 later.1 (λ d is. all d (suc is.0, omega (arith, is.1), is.2))
  ]

-- an operand that is neither a number nor a text sets nothing
pub nothing_set : (imaged : Imaged) (field place : ℕ) (operand : Operand) (st : Store) → IsConstantAt imaged field operand
    → ((z : ℤ) → operand ≡ operands.Int z → ⊥) → ((z : ℤ) → operand ≡ operands.Long z → ⊥) → ((text : ℕ) → operand ≡ operands.Text text → ⊥)
    → AreTexts imaged → IsStore imaged st → FillsConstant imaged place field st st filled.Done
nothing_set imaged field place operand st at int long text texts are found there = record {
  effect = λ terms s e. nothing_reported imaged found operand (constant_is imaged field operand at found there) int long text (λ units begins. texts.there units (value_of imaged field found units there begins)) place terms (stored imaged st s);
  limit = refl;
  are = are;
  known = λ all. all;
}

-- the constant of a static field stands at its place
pub static_filled : (imaged : Imaged) (places : Places) (field place : ℕ) (member : MemberOf) (before after : Store) (result : Filled) → ArePlaces (program_of imaged) places
    → IsFieldThere (typed_of imaged) field member → is_static member.flags ≡ true → slice_get places.each field ≡ Some place → FillsConstant imaged place field before after result
    → FillsField imaged field before after result
static_filled imaged places field place member before after result are there static is fills found at = record {
  effect = λ terms s e.
      ap (λ (b : Bool). if b then with_constant imaged.prefix terms (stored imaged before s) (place_of_static (program_of imaged) found) found.field.constant else Ready (stored imaged before s)) own
      ∙ ap (λ (n : ℕ). with_constant imaged.prefix terms (stored imaged before s) n found.field.constant) (sym (place_reported (program_of imaged) places field place found are at is))
      ∙ (fills found at).effect terms s e;
  limit = (fills found at).limit;
  are = (fills found at).are;
  known = (fills found at).known;
} where
  own : is_static found.field.flags ≡ true
  own = ap is_static (sym (there.flags ∙ ap (λ (x : FoundField). x.field.flags) (same_Some there.found found (sym there.there ∙ at)))) ∙ static

-- and that place is there
pub place_there : (imaged : Imaged) (places : Places) (field place : ℕ) (member : MemberOf) (st : Store) → IsProgram (program_of imaged) → ArePlaces (program_of imaged) places
    → IsFieldThere (typed_of imaged) field member → is_static member.flags ≡ true → slice_get places.each field ≡ Some place → IsStore imaged st → place < length st.statics
place_there imaged places field place member st formed are there static is stores =
    let lt = place_within (program_of imaged) places field place there.found formed are there.there (ap is_static (sym there.flags) ∙ static) is in
    let count = are.count in
    let long = stores.statics in
    omega (arith, lt, count, long)

-- ---- one field more of a class

abbrev names : Imaged → ℕ → Name
names imaged class = class_name (program_of imaged) class

fields_left : (fields : List Field) (at : ℕ) (f : Field) → slice_get fields at ≡ Some f → drop at fields ≡ f ∷ drop (at + 1) fields
fields_left fields at f is =
    drop_more fields at f (slice_get_within fields at f is) ∙ ap (λ (x : Field). x ∷ drop (at + 1) fields) (get_or_from_slice_get fields at f f is)

field_first : (imaged : Imaged) (class : Name) (f : Field) (fields : List Field) (terms : Terms) (s : State)
    → constants_from imaged class (f ∷ fields) terms s ≡ then_ready (constants_from imaged class fields terms) (field_constant imaged (record { class = class; field = f }) terms s)
unfolding with_constants
field_first imaged class f fields terms s = refl

field_next : (imaged : Imaged) (class : Name) (fields : List Field) (at : ℕ) (f : Field) (whole : Terms → State → Initialised) (a b : Store) → slice_get fields at ≡ Some f
    → Leads imaged whole (constants_from imaged class (drop at fields)) a b
    → Leads imaged whole (λ terms s. then_ready (constants_from imaged class (drop (at + 1) fields) terms) (field_constant imaged (record { class = class; field = f }) terms s)) a b
field_next imaged class fields at f whole a b is leads = record {
  effect = λ terms s e. leads.effect terms s e ∙ ap (λ (fs : List Field). constants_from imaged class fs terms (stored imaged b s)) (fields_left fields at f is)
      ∙ field_first imaged class f (drop (at + 1) fields) terms (stored imaged b s);
  limit = leads.limit;
  are = leads.are;
  known = leads.known;
}

pub class_on : (imaged : Imaged) (class at number : ℕ) (whole : Terms → State → Initialised) (a b c : Store) (f : IsFieldOf (program_of imaged) class at number)
    → Leads imaged whole (constants_from imaged (class_name (program_of imaged) class) (drop at (fields_at (program_of imaged) class))) a b → FillsField imaged number b c filled.Done
    → Leads imaged whole (constants_from imaged (class_name (program_of imaged) class) (drop (at + 1) (fields_at (program_of imaged) class))) a c
class_on imaged class at number whole a b c f leads fills =
    leads_on imaged whole (field_constant imaged (record { class = names imaged class; field = f.field })) (constants_from imaged (names imaged class) (drop (at + 1) (fields_at (program_of imaged) class))) a b c
    (field_next imaged (names imaged class) (fields_at (program_of imaged) class) at f.field whole a b f.stands leads) (fills _ f.there)

pub class_full : (imaged : Imaged) (class at number : ℕ) (whole : Terms → State → Initialised) (a b c : Store) (used size : ℕ) (f : IsFieldOf (program_of imaged) class at number)
    → Leads imaged whole (constants_from imaged (class_name (program_of imaged) class) (drop at (fields_at (program_of imaged) class))) a b → FillsField imaged number b c (filled.HeapFull used size)
    → Fills imaged whole a c (filled.HeapFull used size)
class_full imaged class at number whole a b c used size f leads fills =
    leads_to_full imaged whole (field_constant imaged (record { class = names imaged class; field = f.field })) (constants_from imaged (names imaged class) (drop (at + 1) (fields_at (program_of imaged) class))) a b c used size
    (field_next imaged (names imaged class) (fields_at (program_of imaged) class) at f.field whole a b f.stands leads) (fills _ f.there)

none_left : (imaged : Imaged) (class : Name) (terms : Terms) (s : State) → constants_from imaged class [] terms s ≡ Ready s
unfolding with_constants
none_left imaged class terms s = refl

pub class_end : (imaged : Imaged) (class at : ℕ) (whole : Terms → State → Initialised) (a b : Store) → length (fields_at (program_of imaged) class) ≤ at
    → Leads imaged whole (constants_from imaged (class_name (program_of imaged) class) (drop at (fields_at (program_of imaged) class))) a b → Fills imaged whole a b filled.Done
class_end imaged class at whole a b end leads = record {
  effect = λ terms s e. leads.effect terms s e
      ∙ ap (λ (fs : List Field). constants_from imaged (names imaged class) fs terms (stored imaged b s)) (drop_all at (fields_at (program_of imaged) class) end)
      ∙ none_left imaged (names imaged class) terms (stored imaged b s);
  limit = leads.limit;
  are = leads.are;
  known = leads.known;
}

-- ---- one class more

class_first : (imaged : Imaged) (k : ℕ) (ks : List ℕ) (terms : Terms) (s : State) → DoNamesDiffer (program_of imaged) → k < length (program_of imaged)
    → all_constants imaged (k ∷ ks) terms s ≡ then_ready (all_constants imaged ks terms) (class_constants imaged k terms s)
unfolding constants_of
class_first imaged k ks terms s differ lt =
    ap (λ (o : Option Class). then_ready (all_constants imaged ks terms) (with_constants (program_of imaged) imaged.prefix terms (names imaged k) (fields_of o) s))
    (class_of_name (program_of imaged) k differ lt)

classes_left : (classes : List ℕ) (turn class : ℕ) → turn < length classes → class ≡ get_or classes (length classes - 1 - turn) 0 → drop turn (reverse classes) ≡ class ∷ drop (turn + 1) (reverse classes)
classes_left classes turn class lt is =
    drop_more (reverse classes) turn 0 (let e = length-reverse classes in omega (arith, e, lt))
    ∙ ap (λ (k : ℕ). k ∷ drop (turn + 1) (reverse classes)) (get_or-reverse classes turn 0 lt ∙ sym is)

class_next : (imaged : Imaged) (classes : List ℕ) (turn class : ℕ) (whole : Terms → State → Initialised) (a b : Store) → DoNamesDiffer (program_of imaged) → class < length (program_of imaged)
    → turn < length classes → class ≡ get_or classes (length classes - 1 - turn) 0
    → Leads imaged whole (all_constants imaged (drop turn (reverse classes))) a b
    → Leads imaged whole (λ terms s. then_ready (all_constants imaged (drop (turn + 1) (reverse classes)) terms) (class_constants imaged class terms s)) a b
class_next imaged classes turn class whole a b differ within lt is leads = record {
  effect = λ terms s e. leads.effect terms s e ∙ ap (λ (ks : List ℕ). all_constants imaged ks terms (stored imaged b s)) (classes_left classes turn class lt is)
      ∙ class_first imaged class (drop (turn + 1) (reverse classes)) terms (stored imaged b s) differ within;
  limit = leads.limit;
  are = leads.are;
  known = leads.known;
}

pub classes_on : (imaged : Imaged) (classes : List ℕ) (turn class : ℕ) (whole : Terms → State → Initialised) (a b c : Store) → DoNamesDiffer (program_of imaged) → class < length (program_of imaged)
    → turn < length classes → class ≡ get_or classes (length classes - 1 - turn) 0
    → Leads imaged whole (all_constants imaged (drop turn (reverse classes))) a b → Fills imaged (class_constants imaged class) b c filled.Done
    → Leads imaged whole (all_constants imaged (drop (turn + 1) (reverse classes))) a c
classes_on imaged classes turn class whole a b c differ within lt is leads fills =
    leads_on imaged whole (class_constants imaged class) (all_constants imaged (drop (turn + 1) (reverse classes))) a b c (class_next imaged classes turn class whole a b differ within lt is leads) fills

pub classes_full : (imaged : Imaged) (classes : List ℕ) (turn class : ℕ) (whole : Terms → State → Initialised) (a b c : Store) (used size : ℕ) → DoNamesDiffer (program_of imaged) → class < length (program_of imaged)
    → turn < length classes → class ≡ get_or classes (length classes - 1 - turn) 0
    → Leads imaged whole (all_constants imaged (drop turn (reverse classes))) a b → Fills imaged (class_constants imaged class) b c (filled.HeapFull used size)
    → Fills imaged whole a c (filled.HeapFull used size)
classes_full imaged classes turn class whole a b c used size differ within lt is leads fills =
    leads_to_full imaged whole (class_constants imaged class) (all_constants imaged (drop (turn + 1) (reverse classes))) a b c used size (class_next imaged classes turn class whole a b differ within lt is leads) fills

no_classes : (imaged : Imaged) (terms : Terms) (s : State) → all_constants imaged [] terms s ≡ Ready s
unfolding constants_of
no_classes imaged terms s = refl

pub classes_end : (imaged : Imaged) (classes : List ℕ) (turn : ℕ) (whole : Terms → State → Initialised) (a b : Store) → length classes ≤ turn
    → Leads imaged whole (all_constants imaged (drop turn (reverse classes))) a b → Fills imaged whole a b filled.Done
classes_end imaged classes turn whole a b end leads = record {
  effect = λ terms s e. leads.effect terms s e
      ∙ ap (λ (ks : List ℕ). all_constants imaged ks terms (stored imaged b s)) (drop_all turn (reverse classes) (let e = length-reverse classes in omega (arith, e, end)))
      ∙ no_classes imaged terms (stored imaged b s);
  limit = leads.limit;
  are = leads.are;
  known = leads.known;
}
