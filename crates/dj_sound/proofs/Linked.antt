-- What the instructions and handlers of accepted files name is linked.
use Rattle.std.proofs.Common.{◌≡◌, ◌≢◌, ℕ, ◌+◌, ◌≤◌, ◌⊎◌, Bool, true, false, not, ◌&&◌, ◌||◌, List, [], Option, Some, None, codes, refl, sym, ap, ◌∙◌, subst, inl, inr, arith, IsTrue}
use Rattle.std.specs.Prelude.{IsSomeAnd, nat_eq, nat_lt, nat_le}
use Rattle.std.specs.Option.{option_map}
use Rattle.std.proofs.lemmas.Bool.Decides.{nat_tests}
use Rattle.dj_names.specs.declared.descriptor.Ty.{Ty}
use Rattle.dj_names.specs.trusted.Types.{Name, same_name, array_type}
use Rattle.dj_ops.specs.declared.instruction.Instr.{Instr}
use Rattle.dj_ops.specs.declared.instruction.Instr.TheVariants as instrs
use Rattle.dj_pool.specs.trusted.Pool.{Constant, Class, Field, Method, InterfaceMethod, constant_at, text_at, IsClassText, IsPool}
use Rattle.dj_model.specs.trusted.Types.{Member, initialiser_name, string_name}
use Rattle.dj_model.specs.trusted.Instructions.{Named, Nothing, AClass, AField, AMethod, AnInterfaceMethod, Another, Instruction}
use Rattle.dj_model.specs.trusted.Opcodes.{instruction_of, member, member_does, field_rows, method_rows, interface_method_rows, interface_call, class_use}
use Rattle.dj_model.specs.trusted.Program as programs
use Rattle.dj_model.specs.trusted.Program.{Program, class_at}
use Rattle.dj_model.specs.trusted.Linking.{member_class}
use Rattle.dj_model.specs.trusted.Numbers.{agrees}
use Rattle.dj_model.specs.Sound.{is_class_of, is_field_linked, is_method_linked, is_linked, is_caught}
use Rattle.dj_model.proofs.MappedNames.{either}
use Rattle.dj_declarations.specs.trusted.Files.{type_in, name_in}
use Rattle.dj_declarations.specs.trusted.Members.{has_method_named}
use Rattle.dj_class_table.proofs.Orders.{names_from_same}
use Rattle.dj_link_rules.specs.trusted.Named.{named_type, class_of_type, is_static_found, NamesNoClass}
use Rattle.dj_link_rules.specs.trusted.Foreign.{IsOfLibrary, IsForeign, NamesUnmakeable}
use Rattle.dj_link_rules.specs.trusted.Unlinked.{asks_static, differ, IsUnlinkedMember, IsAbstractType, NamesAbstract, IsUnlinkedType, IsUnlinkedConstant, IsUnlinked, is_class, IsUnlinkedCatch}
use Rattle.dj_program.specs.trusted.Naming.{named_by, named_at, named_or_another, instruction_in, member_in}
use Rattle.dj_program.specs.trusted.Codes.{catches_in}
use Rattle.dj_sound.proofs.Tests.{is_true, is_false, text_or}
use Rattle.dj_sound.proofs.Forms.{IsOther, IsFine, plain_fine}
use Rattle.dj_sound.proofs.Operands.{Sees, there, positive, IsClassType, class_typed, type_there, field_static, method_static, IsMemberOf, Nothing, Something, field_names, method_names, interface_names, class_named}

-- ---- the text's class can't be made by new

-- of the classes of the program no object of the one of this name is made
abbrev pub HidesString : Program → Type 0
HidesString judged = (class : programs.Class) → class_at judged (string_name []) ≡ Some class → has_method_named class.methods (codes "<init>") ≡ false

-- the rules judge the one program, and what they find there is in the other
module _ (judged program : Program) (sees : Sees judged program) (own : Name) (pool : List Constant) (valid : IsPool pool) where
  -- ---- a constant that no line speaks of

  module _ (instr : Instr) (k : Constant) (fits : IsUnlinkedConstant judged own instr pool k → ⊥) where
    type_found : (ty : Ty) → named_type pool k ≡ Some ty → class_at judged (class_of_type ty) ≡ None → ⊥
    type_found ty named none = fits (inl (subst (λ (o : Option Ty). IsSomeAnd o (λ t. class_at judged (class_of_type t) ≡ None)) (sym named) none))

    few_dims : (ty : Ty) → named_type pool k ≡ Some ty → IsUnlinkedType judged instr k ty → ⊥
    few_dims ty named bad = fits (inr (inr (inr (subst (λ (o : Option Ty). IsSomeAnd o (IsUnlinkedType judged instr k)) (sym named) bad))))

    module _ (m : Member) (is : IsMemberOf pool k m) where
      class_linked : is_class_of program m.class ≡ true
      class_linked = type_there judged program sees m.class is.typed (type_found m.class is.class)

      unlinked_member : IsUnlinkedMember judged own instr k m → ⊥
      unlinked_member bad = fits (inr (inr (inl (subst (λ (o : Option Member). IsSomeAnd o (IsUnlinkedMember judged own instr k)) (sym is.named) bad))))

      no_initialiser : not (same_name m.name initialiser_name) ≡ true
      no_initialiser = ap not (is_false (same_name m.name initialiser_name) (λ e. unlinked_member (inr (inr (inl (names_from_same m.name initialiser_name e))))))

      -- and it is static where the instruction asks so
      static_found : (asked : Bool) → asks_static instr ≡ Some asked → (b : Bool) × (is_static_found judged k m ≡ Some b) × (agrees asked b ≡ true)
      static_found asked asks =
          let (b, found) = there (is_static_found judged k m) (λ none.
          fits (inr (inl (subst (λ (o : Option Member). IsSomeAnd o (λ x. is_static_found judged k x ≡ None)) (sym is.named) none)))) in
          (b, found, is_true (agrees asked b) (λ other. unlinked_member (inl ((λ i. differ (asks i) (found i)) ∙ ap not other))))

  -- ---- members

  field_linked : (instr : Instr) (class names : ℕ) → (IsUnlinkedConstant judged own instr pool (Field class names) → ⊥) → (m : Member) → IsMemberOf pool (Field class names) m
      → (asked : Bool) → asks_static instr ≡ Some asked → is_field_linked program [] asked m ≡ true
  field_linked instr class names fits m is asked asks =
      let (b, found, agree) = static_found instr (Field class names) fits m is asked asks in
      rw (class_linked instr (Field class names) fits m is, no_initialiser instr (Field class names) fits m is, field_static judged program sees m asked b found agree) refl

  method_linked : (instr : Instr) (class names : ℕ) → (IsUnlinkedConstant judged own instr pool (Method class names) → ⊥) → (m : Member) → IsMemberOf pool (Method class names) m
      → (asked : Bool) → asks_static instr ≡ Some asked → is_method_linked program [] asked m ≡ true
  method_linked instr class names fits m is asked asks =
      let (b, found, agree) = static_found instr (Method class names) fits m is asked asks in
      rw (class_linked instr (Method class names) fits m is, no_initialiser instr (Method class names) fits m is, method_static judged program sees m asked b found agree) refl

  interface_linked : (instr : Instr) (class names : ℕ) → (IsUnlinkedConstant judged own instr pool (InterfaceMethod class names) → ⊥) → (m : Member) → IsMemberOf pool (InterfaceMethod class names) m
      → (asked : Bool) → asks_static instr ≡ Some asked → is_method_linked program [] asked m ≡ true
  interface_linked instr class names fits m is asked asks =
      let (b, found, agree) = static_found instr (InterfaceMethod class names) fits m is asked asks in
      rw (class_linked instr (InterfaceMethod class names) fits m is, no_initialiser instr (InterfaceMethod class names) fits m is, method_static judged program sees m asked b found agree) refl

  -- whether the opcode asks for a static member
  abbrev asked_by : ℕ → Bool
  asked_by op = nat_le op 179 || nat_eq op 184

  number_is : (op n : ℕ) → nat_eq op n ≡ true → op ≡ n
  number_is op n e = grind (arith, nat_tests)

  field_fine : (op : ℕ) (m : Member) → is_field_linked program [] (asked_by op) m ≡ true → IsFine program (member_does field_rows (AField m) op m)
  unfolding is_linked
  field_fine op m such =
      let at = λ (n : ℕ) (e : nat_eq op n ≡ true). subst (λ (o : ℕ). is_field_linked program [] (asked_by o) m ≡ true) (number_is op n e) such in
      elim (either (nat_eq op 178)) [
        | inl a ↦ rw a (inr (at 178 a))
        | inr a ↦ elim (either (nat_eq op 179)) [
          | inl b ↦ rw (a, b) (inr (at 179 b))
          | inr b ↦ elim (either (nat_eq op 180)) [
            | inl c ↦ rw (a, b, c) (inr (at 180 c))
            | inr c ↦ elim (either (nat_eq op 181)) [ inl d ↦ rw (a, b, c, d) (inr (at 181 d)) | inr d ↦ rw (a, b, c, d) (inl tt) ]
          ]
        ]
      ]

  method_fine : (op : ℕ) (m : Member) → is_method_linked program [] (asked_by op) m ≡ true → IsFine program (member_does method_rows (AMethod m) op m)
  unfolding is_linked
  method_fine op m such =
      let at = λ (n : ℕ) (e : nat_eq op n ≡ true). subst (λ (o : ℕ). is_method_linked program [] (asked_by o) m ≡ true) (number_is op n e) such in
      elim (either (nat_eq op 182)) [
        | inl a ↦ rw a (inr (at 182 a))
        | inr a ↦ elim (either (nat_eq op 183)) [
          | inl b ↦ rw (a, b) (inr (at 183 b))
          | inr b ↦ elim (either (nat_eq op 184)) [ inl c ↦ rw (a, b, c) (inr (at 184 c)) | inr c ↦ rw (a, b, c) (inl tt) ]
        ]
      ]

  interface_fine : (op : ℕ) (m : Member) → is_method_linked program [] (asked_by op) m ≡ true → IsFine program (member_does interface_method_rows (AnInterfaceMethod m) op m)
  unfolding is_linked
  interface_fine op m such =
      let at = λ (n : ℕ) (e : nat_eq op n ≡ true). subst (λ (o : ℕ). is_method_linked program [] (asked_by o) m ≡ true) (number_is op n e) such in
      elim (either (nat_eq op 183)) [
        | inl a ↦ rw a (inr (at 183 a))
        | inr a ↦ elim (either (nat_eq op 184)) [ inl b ↦ rw (a, b) (inr (at 184 b)) | inr b ↦ rw (a, b) (inl tt) ]
      ]

  member_named : (op index : ℕ) (k : Constant) → (IsUnlinkedConstant judged own (instrs.Member op index) pool k → ⊥) → IsFine program (member op (named_by pool k))
  unfolding named_by
  member_named op index (Field class names) fits = elim (field_names pool valid class names) [
    | Nothing e ↦ subst (λ (o : Option Member). IsFine program (member op (named_or_another (option_map AField o)))) (sym e) (inl tt)
    | Something m e is ↦
        subst (λ (o : Option Member). IsFine program (member op (named_or_another (option_map AField o)))) (sym e)
        (field_fine op m (field_linked (instrs.Member op index) class names fits m is (asked_by op) refl))
  ]
  member_named op index (Method class names) fits = elim (method_names pool valid class names) [
    | Nothing e ↦ subst (λ (o : Option Member). IsFine program (member op (named_or_another (option_map AMethod o)))) (sym e) (inl tt)
    | Something m e is ↦
        subst (λ (o : Option Member). IsFine program (member op (named_or_another (option_map AMethod o)))) (sym e)
        (method_fine op m (method_linked (instrs.Member op index) class names fits m is (asked_by op) refl))
  ]
  member_named op index (InterfaceMethod class names) fits = elim (interface_names pool valid class names) [
    | Nothing e ↦ subst (λ (o : Option Member). IsFine program (member op (named_or_another (option_map AnInterfaceMethod o)))) (sym e) (inl tt)
    | Something m e is ↦
        subst (λ (o : Option Member). IsFine program (member op (named_or_another (option_map AnInterfaceMethod o)))) (sym e)
        (interface_fine op m (interface_linked (instrs.Member op index) class names fits m is (asked_by op) refl))
  ]
  member_named op index _ fits = inl tt

  -- ---- calls of interfaces' methods

  other_call : (count : ℕ) (f : Member → Named) → ((m : Member) → IsOther (interface_call count (f m))) → (o : Option Member) → IsFine program (interface_call count (named_or_another (option_map f o)))
  other_call count f each None = inl tt
  other_call count f each (Some m) = inl (each m)

  call_named : (index count : ℕ) (k : Constant) → (IsUnlinkedConstant judged own (instrs.Interface index count) pool k → ⊥) → IsFine program (interface_call count (named_by pool k))
  unfolding named_by is_linked
  call_named index count (Field class names) fits = other_call count AField (λ m. tt) (member_in pool class names)
  call_named index count (Method class names) fits = other_call count AMethod (λ m. tt) (member_in pool class names)
  call_named index count (InterfaceMethod class names) fits = elim (interface_names pool valid class names) [
    | Nothing e ↦ subst (λ (o : Option Member). IsFine program (interface_call count (named_or_another (option_map AnInterfaceMethod o)))) (sym e) (inl tt)
    | Something m e is ↦
        subst (λ (o : Option Member). IsFine program (interface_call count (named_or_another (option_map AnInterfaceMethod o)))) (sym e)
        (inr (interface_linked (instrs.Interface index count) class names fits m is false refl))
  ]
  call_named index count _ fits = inl tt

  -- ---- classes

  abbrev IsMade : ℕ → ℕ → Type 0
  IsMade op index = IsForeign judged pool (instrs.Class op index) ⊎ IsUnlinked judged own pool (instrs.Class op index)

  module _ (hides : HidesString judged) (op index name : ℕ) (at : constant_at pool index ≡ Some (Class name))
      (near : IsForeign judged pool (instrs.Class op index) → ⊥) (linked : IsUnlinked judged own pool (instrs.Class op index) → ⊥) where
    class_fits : IsUnlinkedConstant judged own (instrs.Class op index) pool (Class name) → ⊥
    class_fits bad = linked (inr (inl (subst (λ (o : Option Constant). IsSomeAnd o (IsUnlinkedConstant judged own (instrs.Class op index) pool)) (sym at) bad)))

    module _ (ty : Ty) (named : named_type pool (Class name) ≡ Some ty) (typed : IsClassType ty) where
      used : is_class_of program ty ≡ true
      used = type_there judged program sees ty typed (type_found (instrs.Class op index) (Class name) class_fits ty named)

      no_array : op ≡ 187 → nat_eq ty.dims 0 ≡ true
      no_array new = is_true (nat_eq ty.dims 0) (λ other.
          let some : 1 ≤ ty.dims = some_dims ty.dims other in
          linked (inr (inr (
            new,
            subst (λ (o : Option Constant). IsSomeAnd o (NamesAbstract judged pool)) (sym at)
                (subst (λ (o : Option Ty). IsSomeAnd o (IsAbstractType judged)) (sym named) (inl some)),
          ))))
        where
          some_dims : (n : ℕ) → nat_eq n 0 ≡ false → 1 ≤ n
          some_dims n e = grind (arith, nat_tests)

      no_string : op ≡ 187 → not (same_name (member_class [] ty) (string_name [])) ≡ true
      no_string new =
          let whole = no_array new in
          let zero_dims : ty.dims ≡ 0 = number_is ty.dims 0 whole in
          let own_class : member_class [] ty ≡ class_of_type ty = rw whole refl in
          ap not (is_false (same_name (member_class [] ty) (string_name [])) (λ e.
          let string : class_of_type ty ≡ string_name [] = sym own_class ∙ names_from_same (member_class [] ty) (string_name []) e in
          let (class, there_is) = there (class_at judged (class_of_type ty)) (type_found (instrs.Class op index) (Class name) class_fits ty named) in
          near (inr (
            new,
            subst (λ (o : Option Constant). IsSomeAnd o (NamesUnmakeable judged pool)) (sym at) (record {
              ty = ty;
              named = named;
              whole = zero_dims;
              library = subst IsOfLibrary (sym string) (inl refl);
              class = class;
              there = there_is;
              such = inl (hides class (ap (class_at judged) (sym string) ∙ there_is));
            }),
          ))))

      not_deep : op ≡ 189 → ty.dims + 1 ≤ 255
      not_deep array = at_most ty.dims typed.few (λ deep. few_dims (instrs.Class op index) (Class name) class_fits ty named (inr (array, deep))) where
        at_most : (n : ℕ) → n ≤ 255 → (n ≡ 255 → ⊥) → n + 1 ≤ 255
        at_most n few other = elim (either (nat_eq n 255)) [
          | inl e ↦ absurd (other (number_is n 255 e))
          | inr e ↦ grind (arith, nat_tests)
        ]

      array_used : op ≡ 189 → (is_class_of program (array_type ty) && not (nat_eq (ty.dims + 1) 0) && nat_lt (ty.dims + 1) 256) ≡ true
      array_used array =
          let few = not_deep array in
          let some = positive (ty.dims + 1) (omega arith) in
          let low = below (ty.dims + 1) few in
          let there_is = type_there judged program sees (array_type ty) (record { few = few; some = λ zero. absurd (omega (arith, zero)) })
          (type_found (instrs.Class op index) (Class name) class_fits ty named) in
          rw (there_is, some, low) refl
        where
          below : (n : ℕ) → n ≤ 255 → nat_lt n 256 ≡ true
          below n few = grind (arith, nat_tests)

      class_fine : IsFine program (class_use op (AClass ty))
      unfolding is_linked
      class_fine = elim (either (nat_eq op 187)) [
        | inl a ↦ rw a (inr (let new = number_is op 187 a in rw (used, no_string new, no_array new) refl))
        | inr a ↦ elim (either (nat_eq op 189)) [
          | inl b ↦ rw (a, b) (inr (array_used (number_is op 189 b)))
          | inr b ↦ elim (either (nat_eq op 192)) [
            | inl c ↦ rw (a, b, c) (inr used)
            | inr c ↦ elim (either (nat_eq op 193)) [ inl d ↦ rw (a, b, c, d) (inr used) | inr d ↦ rw (a, b, c, d) (inl tt) ]
          ]
        ]
      ]

  -- ---- of all forms

  other_class : (op : ℕ) (f : Member → Named) → ((m : Member) → IsOther (class_use op (f m))) → (o : Option Member) → IsFine program (class_use op (named_or_another (option_map f o)))
  other_class op f each None = inl tt
  other_class op f each (Some m) = inl (each m)

  class_used : HidesString judged → (op index : ℕ) (k : Constant) → constant_at pool index ≡ Some k → (IsForeign judged pool (instrs.Class op index) → ⊥) → (IsUnlinked judged own pool (instrs.Class op index) → ⊥)
      → IsFine program (class_use op (named_by pool k))
  unfolding named_by
  class_used hides op index (Class name) at near linked =
      let (text, text_is, class_text) = class_named pool valid index name at in
      let is : name_in pool name ≡ text = ap text_or text_is in
      subst (λ (t : Name). IsFine program (class_use op (AClass (type_in t)))) (sym is)
      (class_fine hides op index name at near linked (type_in text) (ap (option_map type_in) text_is) (class_typed text class_text))
  class_used hides op index (Field class names) at near linked = other_class op AField (λ m. tt) (member_in pool class names)
  class_used hides op index (Method class names) at near linked = other_class op AMethod (λ m. tt) (member_in pool class names)
  class_used hides op index (InterfaceMethod class names) at near linked = other_class op AnInterfaceMethod (λ m. tt) (member_in pool class names)
  class_used hides op index _ at near linked = inl tt

  -- by what the index names
  found_or_other : (does : Named → Instruction) → IsOther (does Another) → (index : ℕ) → ((k : Constant) → constant_at pool index ≡ Some k → IsFine program (does (named_by pool k))) → IsFine program (does (named_at pool index))
  found_or_other does other index each = by (constant_at pool index) refl where
    by : (o : Option Constant) → constant_at pool index ≡ o → IsFine program (does (named_or_another (option_map (named_by pool) o)))
    by None at = inl other
    by (Some k) at = each k at

  pub instr_fine : HidesString judged → (instr : Instr) → (IsForeign judged pool instr → ⊥) → (IsUnlinked judged own pool instr → ⊥) → IsFine program (instruction_in pool instr)
  unfolding instruction_of
  instr_fine hides (instrs.Member op index) near linked = found_or_other (member op) tt index (λ k at. member_named op index k (λ bad.
      linked (inr (inl (subst (λ (o : Option Constant). IsSomeAnd o (IsUnlinkedConstant judged own (instrs.Member op index) pool)) (sym at) bad)))))
  instr_fine hides (instrs.Interface index count) near linked = found_or_other (interface_call count) tt index (λ k at. call_named index count k (λ bad.
      linked (inr (inl (subst (λ (o : Option Constant). IsSomeAnd o (IsUnlinkedConstant judged own (instrs.Interface index count) pool)) (sym at) bad)))))
  instr_fine hides (instrs.Class op index) near linked = found_or_other (class_use op) tt index (λ k at. class_used hides op index k at near linked)
  instr_fine hides (instrs.Simple op) near linked = plain_fine program pool (instrs.Simple op) tt
  instr_fine hides (instrs.Push op value) near linked = plain_fine program pool (instrs.Push op value) tt
  instr_fine hides (instrs.Literal op index) near linked = plain_fine program pool (instrs.Literal op index) tt
  instr_fine hides (instrs.Local op slot wide) near linked = plain_fine program pool (instrs.Local op slot wide) tt
  instr_fine hides (instrs.Inc slot by wide) near linked = plain_fine program pool (instrs.Inc slot by wide) tt
  instr_fine hides (instrs.Branch op target) near linked = plain_fine program pool (instrs.Branch op target) tt
  instr_fine hides (instrs.Table low default targets) near linked = plain_fine program pool (instrs.Table low default targets) tt
  instr_fine hides (instrs.Lookup default pairs) near linked = plain_fine program pool (instrs.Lookup default pairs) tt
  instr_fine hides (instrs.Dynamic index) near linked = plain_fine program pool (instrs.Dynamic index) tt
  instr_fine hides (instrs.Array base) near linked = plain_fine program pool (instrs.Array base) tt
  instr_fine hides (instrs.Multi index dims) near linked = plain_fine program pool (instrs.Multi index dims) tt

  -- ---- handlers

  class_caught : (name : ℕ) (text : List ℕ) → text_at pool name ≡ Some text → IsClassText text → (NamesNoClass judged pool (Class name) → ⊥) → is_class_of program (type_in (name_in pool name)) ≡ true
  class_caught name text at class_text none =
      let is : name_in pool name ≡ text = ap text_or at in
      let named : named_type pool (Class name) ≡ Some (type_in text) = ap (option_map type_in) at in
      subst (λ (t : Name). is_class_of program (type_in t) ≡ true) (sym is)
      (type_there judged program sees (type_in text) (class_typed text class_text) (λ missing.
      none (subst (λ (o : Option Ty). IsSomeAnd o (λ t. class_at judged (class_of_type t) ≡ None)) (sym named) missing)))

  pub catch_linked : (index : ℕ) → (IsUnlinkedCatch judged pool index → ⊥) → is_caught program (catches_in pool index) ≡ true
  unfolding named_by
  catch_linked index linked = elim (either (nat_eq index 0)) [
    | inl none ↦ rw none refl
    | inr other ↦ rw other (by (λ e. nonzero index other e) (constant_at pool index) refl)
  ]
    where
      nonzero : (n : ℕ) → nat_eq n 0 ≡ false → n ≡ 0 → ⊥
      nonzero n e is = absurd (grind (arith, nat_tests, e, is))

      by : (index ≢ 0) → (o : Option Constant) → constant_at pool index ≡ o → is_caught program (Some (named_or_another (option_map (named_by pool) o))) ≡ true
      by some None at = absurd (linked (some, inl (subst (λ (o : Option Constant). IsSomeAnd o (λ k. IsTrue (is_class k)) → ⊥) (sym at) (λ s. s))))
      by some (Some (Class name)) at =
          let (text, text_is, class_text) = class_named pool valid index name at in
          class_caught name text text_is class_text (λ none. linked (some, inr (subst (λ (o : Option Constant). IsSomeAnd o (NamesNoClass judged pool)) (sym at) none)))
      by some (Some _) at = absurd (linked (some, inl (subst (λ (o : Option Constant). IsSomeAnd o (λ k. IsTrue (is_class k)) → ⊥) (sym at) (λ s. absurd cc))))
