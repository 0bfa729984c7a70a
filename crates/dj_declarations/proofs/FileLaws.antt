-- The rows of a class file's members.
use Rattle.std.proofs.Common.{◌≡◌, ℕ, zero, suc, ◌+◌, ◌<◌, ◌↔◌, ◌||◌, Bool, true, false, cond, List, [], ◌∷◌, ◌++◌, length, map, take, set, get_or, All, Option, Some, None, IsSomeAnd, IsTrue, refl, sym, ap, ◌∙◌, subst, arith, inl, inr, unwrap_or}
use Rattle.std.specs.Prelude.{◌/◌, ◌%◌, ◌^◌, slice_get, option_and_then, bit_and}
use Rattle.std.specs.Option.{is_some}
use Rattle.std.specs.Int.{bit_at, IsBitSet}
use Rattle.std.specs.List.{AllByRecursion}
use Rattle.std.proofs.lemmas.Bool.{cases_eq, cases_lt, eq-eqb, ne_eqb}
use Rattle.std.proofs.lemmas.Nat.{bit_set_by_shift, and_mask}
use Rattle.std.proofs.lemmas.Option.{slice_get_past, same_Some}
use Rattle.std.proofs.lemmas.List.{take_more, length-set, get_or-set_same, get_or-set_other}
use Rattle.std.proofs.lemmas.List.Elements.{All-from_recursion}
use Rattle.dj_names.specs.declared.descriptor.Desc.TheVariants as descs
use Rattle.dj_names.specs.trusted.Types.{Name}
use Rattle.dj_names.specs.trusted.DescReading.{desc_read}
use Rattle.dj_names.specs.trusted.Names.{IsUnqualifiedName, IsMethodName}
use Rattle.dj_names.specs.trusted.Descriptors.{IsFieldDescriptor, IsMethodDescriptor}
use Rattle.dj_pool.specs.trusted.Pool.{Constant, text_of, text_at}
use Rattle.dj_class.specs.declared.class.MemberView.{MemberView}
use Rattle.dj_class.specs.Members.{member_of}
use Rattle.dj_class.specs.trusted.ClassFile.{MemberInfo, IsMember, IsField, IsMethod}
use Rattle.dj_model.specs.trusted.Program.{Abstract, Runs, has_flag}
use Rattle.dj_declarations.specs.declared.members.MemberBody.{MemberBody}
use Rattle.dj_declarations.specs.declared.members.MemberBody.TheVariants as bodies
use Rattle.dj_declarations.specs.declared.members.MemberRow.{MemberRow}
use Rattle.dj_declarations.specs.trusted.Files.{desc_in, name_in, no_code, is_bodiless, declared_method, declared_field}
use Rattle.dj_declarations.specs.Members.{IsDescriptor}
use Rattle.dj_declarations.specs.Texts.{Numbers, number_in, text_in, NumbersKeep}
use Rattle.dj_declarations.specs.MemberRows.{body_of, row_method, row_field, IsSound, AreSound, number_at, AreNumbered, IsNamed, AreNamed, kept_body, method_row_of, field_row_of}
use Rattle.dj_declarations.proofs.DescTests.{is_descriptor, read_descriptor}
use Rattle.dj_declarations.proofs.TextLaws.{leads_back}

-- ---- the numbers of the pool's texts

-- an index past the pool has no text
past_text : (found : Option Constant) (text : Name) → found ≡ None → option_and_then text_of found ≡ Some text → ⊥
past_text found text none at = let bad : None ≡ Some text = sym (ap (option_and_then text_of) none) ∙ at in absurd cc

pub within_pool : (pool : List Constant) (index : ℕ) (text : Name) → text_at pool index ≡ Some text → index < length pool + 1
within_pool pool zero text at = omega arith
within_pool pool (suc index) text at = elim (cases_lt index (length pool)) [
  | inl lt ↦ omega arith
  | inr past ↦ absurd (past_text (slice_get pool index) text (slice_get_past pool index past) at)
]

reported_number : (number reported : ℕ) → Some number ≡ Some reported → number ≡ reported
reported_number number reported e = cc

reported_text : (found : Option Name) (text reported : Name) → found ≡ Some text → found ≡ Some reported → text ≡ reported
reported_text found text reported e f = same_Some text reported (sym e ∙ f)

-- one number more
pub numbered_more : (pool : List Constant) (places : List (Option ℕ)) (index number : ℕ) (text : Name) (old new : Numbers) → AreNumbered pool places old → NumbersKeep old new → text_at pool index ≡ Some text → number_in new text ≡ Some number
    → AreNumbered pool (set places index (Some number)) new
numbered_more pool places index number text old new before keeps at is = record {
  rooms = length-set places index (Some number) ∙ before.rooms;
  reported = λ other reported found e there. elim (cases_eq other index) [
    | inl same ↦
        let within : index < length places = omega (arith, within_pool pool index text at, before.rooms) in
        let here : number ≡ reported = reported_number number reported (sym (ap (λ (k : ℕ). get_or (set places index (Some number)) k None) same ∙ get_or-set_same places index (Some number) None within) ∙ e) in
        let text_is : text ≡ found = reported_text (text_at pool index) text found at (ap (text_at pool) (sym same) ∙ there) in
        ap (number_in new) (sym text_is) ∙ is ∙ ap Some here
    | inr apart ↦ keeps found reported (before.reported other reported found (sym (get_or-set_other places index other (Some number) None apart) ∙ e) there)
  ];
}

-- ---- flags

low_bit : (n : ℕ) → bit_and n 1 ≡ n % 2
low_bit n = and_mask n 1

pub flag_reported : (b : Bool) (flags bit : ℕ) → (IsTrue b ↔ IsBitSet flags bit) → b ≡ has_flag bit flags
flag_reported true flags bit reported = sym (eq-eqb (bit_at flags bit) 1 (sym (low_bit (flags / 2 ^ bit)) ∙ (bit_set_by_shift flags bit).1 (reported.0 refl)))
flag_reported false flags bit reported = sym (ne_eqb (bit_at flags bit) 1 (λ one. (let bad : false ≡ true = reported.1 ((bit_set_by_shift flags bit).0 (low_bit (flags / 2 ^ bit) ∙ one)) in absurd cc)))

pub kept_by : (native bodiless : Bool) (flags : ℕ) → native ≡ has_flag 8 flags → bodiless ≡ has_flag 10 flags → cond (native || bodiless) bodies.Empty bodies.Code ≡ kept_body flags
kept_by native bodiless flags is_native is_bodiless =
    ap (λ (b : Bool). cond (b || bodiless) bodies.Empty bodies.Code) is_native ∙ ap (λ (b : Bool). cond (has_flag 8 flags || b) bodies.Empty bodies.Code) is_bodiless

-- ---- a member

found : {A : Type 0} (P : A → Type 0) (o : Option A) → IsSomeAnd o P → (x : A) × (o ≡ Some x) × P x
found P (Some x) reported = (x, refl, reported)
found P None reported = absurd reported

body_is : (b : Bool) → body_of (cond b bodies.Empty bodies.Code) ≡ cond b Abstract (Runs no_code)
body_is true = refl
body_is false = refl

module _ (pool : List Constant) (places : List (Option ℕ)) (numbers : Numbers) (numbered : AreNumbered pool places numbers) where
  abbrev Marked : ℕ → Type 0
  Marked index = is_some (get_or places index None) ≡ true

  number_is : (index : ℕ) (text : Name) → text_at pool index ≡ Some text → Marked index → number_in numbers text ≡ Some (number_at places index)
  number_is index text at there = by (get_or places index None) refl there where
    by : (found : Option ℕ) → get_or places index None ≡ found → is_some found ≡ true → number_in numbers text ≡ Some (unwrap_or found 0)
    by None e there = absurd cc
    by (Some number) e there = numbered.reported index number text e at

  text_is : (index : ℕ) (text : Name) → text_at pool index ≡ Some text → Marked index → text_in numbers (number_at places index) ≡ text
  text_is index text at mark = leads_back numbers text (number_at places index) (number_is index text at mark)

  own_number : (index : ℕ) (text : Name) → text_at pool index ≡ Some text → Marked index → number_in numbers (text_in numbers (number_at places index)) ≡ Some (number_at places index)
  own_number index text at mark = ap (number_in numbers) (text_is index text at mark) ∙ number_is index text at mark

  same_text : (index : ℕ) (text : Name) → text_at pool index ≡ Some text → Marked index → text_in numbers (number_at places index) ≡ name_in pool index
  same_text index text at mark = text_is index text at mark ∙ sym (ap (λ (o : Option Name). unwrap_or o []) at)

  sound_row : (IsName IsDesc : Name → Type 0) → ((text : Name) → IsDesc text → IsDescriptor text) → (m : MemberInfo) (body : MemberBody) → IsMember IsName IsDesc pool m → IsNamed places m
      → IsSound numbers (record { flags = m.flags; name = number_at places m.name; desc = number_at places m.desc; body = body })
  sound_row IsName IsDesc means m body is named =
      let name = found IsName (text_at pool m.name) is.name in
      let desc = found IsDesc (text_at pool m.desc) is.desc in
      record {
        name = own_number m.name name.0 name.1 named.name;
        desc = own_number m.desc desc.0 desc.1 named.desc;
        described = ap (λ (t : Name). is_some (desc_read t)) (text_is m.desc desc.0 desc.1 named.desc) ∙ read_descriptor desc.0 (means desc.0 desc.2);
      }

  method_means : (text : Name) → IsMethodDescriptor text → IsDescriptor text
  method_means text d = is_descriptor text (descs.Method d.0 d.1) d.2

  field_means : (text : Name) → IsFieldDescriptor text → IsDescriptor text
  field_means text d = is_descriptor text (descs.Field d.0) d.1

  method_is : (m : MemberInfo) → IsMethod pool m → IsNamed places m → row_method numbers (method_row_of places m) ≡ declared_method pool m
  method_is m is named =
      let name = found IsMethodName (text_at pool m.name) is.name in
      let desc = found IsMethodDescriptor (text_at pool m.desc) is.desc in
      λ i. record {
        flags = m.flags;
        name = same_text m.name name.0 name.1 named.name i;
        desc = desc_in (same_text m.desc desc.0 desc.1 named.desc i);
        body = body_is (is_bodiless m.flags) i;
      }

  field_is : (f : MemberInfo) → IsField pool f → IsNamed places f → row_field numbers (field_row_of places f) ≡ declared_field pool f
  field_is f is named =
      let name = found IsUnqualifiedName (text_at pool f.name) is.name in
      let desc = found IsFieldDescriptor (text_at pool f.desc) is.desc in
      λ i. record {
        flags = f.flags;
        name = same_text f.name name.0 name.1 named.name i;
        desc = desc_in (same_text f.desc desc.0 desc.1 named.desc i);
        constant = None;
      }

  methods_sound : (ms : List MemberInfo) → AllByRecursion (IsMethod pool) ms → AreNamed places ms → AllByRecursion (IsSound numbers) (map (method_row_of places) ms)
  methods_sound [] all named = tt
  methods_sound (m ∷ ms) all named = (sound_row IsMethodName IsMethodDescriptor method_means m (kept_body m.flags) all.0 named.0, methods_sound ms all.1 named.1)

  fields_sound : (fs : List MemberInfo) → AllByRecursion (IsField pool) fs → AreNamed places fs → AllByRecursion (IsSound numbers) (map (field_row_of places) fs)
  fields_sound [] all named = tt
  fields_sound (f ∷ fs) all named = (sound_row IsUnqualifiedName IsFieldDescriptor field_means f bodies.Empty all.0 named.0, fields_sound fs all.1 named.1)

  methods_are : (ms : List MemberInfo) → AllByRecursion (IsMethod pool) ms → AreNamed places ms → map (row_method numbers) (map (method_row_of places) ms) ≡ map (declared_method pool) ms
  methods_are [] all named = refl
  methods_are (m ∷ ms) all named = λ i. method_is m all.0 named.0 i ∷ methods_are ms all.1 named.1 i

  fields_are : (fs : List MemberInfo) → AllByRecursion (IsField pool) fs → AreNamed places fs → map (row_field numbers) (map (field_row_of places) fs) ≡ map (declared_field pool) fs
  fields_are [] all named = refl
  fields_are (f ∷ fs) all named = λ i. field_is f all.0 named.0 i ∷ fields_are fs all.1 named.1 i

  -- the rows of the fields and of the methods are sound
  pub file_sound : (fs ms : List MemberInfo) (fields methods : List MemberRow) → AllByRecursion (IsField pool) fs → AllByRecursion (IsMethod pool) ms → AreNamed places fs → AreNamed places ms → fields ≡ map (field_row_of places) fs → methods ≡ map (method_row_of places) ms
      → AreSound numbers fields methods
  file_sound fs ms fields methods all_fields all_methods fields_named methods_named fields_is methods_is = record {
    fields_are = subst (λ (rows : List MemberRow). All (IsSound numbers) rows) (sym fields_is) (All-from_recursion (IsSound numbers) (map (field_row_of places) fs) (fields_sound fs all_fields fields_named));
    methods_are = subst (λ (rows : List MemberRow). All (IsSound numbers) rows) (sym methods_is) (All-from_recursion (IsSound numbers) (map (method_row_of places) ms) (methods_sound ms all_methods methods_named));
  }

  pub file_fields : (fs : List MemberInfo) (fields : List MemberRow) → AllByRecursion (IsField pool) fs → AreNamed places fs → fields ≡ map (field_row_of places) fs → map (row_field numbers) fields ≡ map (declared_field pool) fs
  file_fields fs fields all named is = ap (map (row_field numbers)) is ∙ fields_are fs all named

  pub file_methods : (ms : List MemberInfo) (methods : List MemberRow) → AllByRecursion (IsMethod pool) ms → AreNamed places ms → methods ≡ map (method_row_of places) ms → map (row_method numbers) methods ≡ map (declared_method pool) ms
  file_methods ms methods all named is = ap (map (row_method numbers)) is ∙ methods_are ms all named

-- ---- a loop's step

module _ (ms : List MemberView) (i : ℕ) (m : MemberView) (within : i < length ms) (item : m ≡ get_or ms i m) where
  one_more : take (i + 1) ms ≡ take i ms ++ m ∷ []
  one_more = take_more ms i m within ∙ ap (λ (x : MemberView). take i ms ++ x ∷ []) (sym item)

  mapped_push : (f : MemberInfo → MemberRow) (xs : List MemberView) → map f (map member_of (xs ++ m ∷ [])) ≡ map f (map member_of xs) ++ f (member_of m) ∷ []
  mapped_push f [] = refl
  mapped_push f (x ∷ xs) = ap (λ (rows : List MemberRow). f (member_of x) ∷ rows) (mapped_push f xs)

  pub rows_more : (f : MemberInfo → MemberRow) (rows more : List MemberRow) (row : MemberRow) → rows ≡ map f (map member_of (take i ms)) → row ≡ f (member_of m) → more ≡ rows ++ row ∷ [] → more ≡ map f (map member_of (take (i + 1) ms))
  rows_more f rows more row before is pushed =
      pushed ∙ ap (λ (xs : List MemberRow). xs ++ row ∷ []) before ∙ ap (λ (x : MemberRow). map f (map member_of (take i ms)) ++ x ∷ []) is
      ∙ sym (mapped_push f (take i ms)) ∙ ap (λ (xs : List MemberView). map f (map member_of xs)) (sym one_more)

  named_push : (places : List (Option ℕ)) (xs : List MemberView) → AreNamed places (map member_of xs) → IsNamed places (member_of m) → AreNamed places (map member_of (xs ++ m ∷ []))
  named_push places [] all is = (is, tt)
  named_push places (x ∷ xs) all is = (all.0, named_push places xs all.1 is)

  pub named_more : (places : List (Option ℕ)) → AreNamed places (map member_of (take i ms)) → IsNamed places (member_of m) → AreNamed places (map member_of (take (i + 1) ms))
  named_more places all is = subst (λ (xs : List MemberView). AreNamed places (map member_of xs)) (sym one_more) (named_push places (take i ms) all is)

-- the rows of lent numbers and lent members
pub rows_of_lent : (f : List (Option ℕ) → MemberInfo → MemberRow) (rows : List MemberRow) (lent places : List (Option ℕ)) (members ms : List MemberInfo) → rows ≡ map (f lent) members → lent ≡ places → members ≡ ms → rows ≡ map (f places) ms
rows_of_lent f rows lent places members ms is same_places same_members = is ∙ ap (λ (ns : List (Option ℕ)). map (f ns) members) same_places ∙ ap (map (f places)) same_members

-- lent numbers of lent members
pub named_of_lent : (lent places : List (Option ℕ)) (members ms : List MemberInfo) → AreNamed lent members → lent ≡ places → members ≡ ms → AreNamed places ms
named_of_lent lent places members ms all same_places same_members =
    subst (λ (xs : List MemberInfo). AreNamed places xs) same_members (subst (λ (ns : List (Option ℕ)). AreNamed ns members) same_places all)
