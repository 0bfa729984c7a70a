-- A rewritten class file, read again, is the class with the other names and the rewritten code.
use Rattle.std.proofs.Common.{◌≡◌, ℕ, zero, suc, ◌^◌, ◌<◌, Bool, true, false, ◌||◌, cond, List, [], ◌∷◌, ◌++◌, map, Option, Some, None, slice_get, refl, sym, ap, subst, ◌∙◌, arith, ◌⊎◌, inl, inr, unwrap_or}
use Rattle.std.specs.Prelude.{Contains, ⊤, IsSomeAnd}
use Rattle.std.specs.Option.{option_map}
use Rattle.std.specs.List.{AllByRecursion, list_any}
use Rattle.std.specs.Cmp.Lexicographic.{bytes_decides}
use Rattle.std.proofs.lemmas.Bool.{eq-eqb}
use Rattle.std.proofs.lemmas.Option.{same_Some, none-some}
use Rattle.std.proofs.lemmas.List.Folds.{list_any-append}
use Rattle.dj_cursor.specs.trusted.Spelling.{u2}
use Rattle.dj_names.specs.declared.descriptor.Desc.TheVariants as descs
use Rattle.dj_names.specs.trusted.Types.{Name}
use Rattle.dj_names.specs.Types.{in_sandbox}
use Rattle.dj_names.specs.trusted.Names.{IsUnqualifiedName, IsMethodName}
use Rattle.dj_names.specs.trusted.Descriptors.{IsFieldDescriptor, IsMethodDescriptor}
use Rattle.dj_pool.specs.trusted.Pool.{Constant, Hole, takes_two, indexed, constant_at, text_at, class_name_at, IsLinked, IsConstant, IsPool}
use Rattle.dj_class.specs.trusted.ClassFile.{MemberInfo, ClassFile, IsField, IsMethod, NamesClass}
use Rattle.dj_class.specs.trusted.Names.{this_name}
use Rattle.dj_early_rules.specs.trusted.Attributes.{values_of}
use Rattle.dj_early_rules.specs.trusted.Malformed.{IsValueFor, IsFaultyField}
use Rattle.dj_program.specs.trusted.Naming.{value_index}
use Rattle.dj_rename.specs.Pools.{Need, desc_need, needs_from, needs}
use Rattle.dj_rewritten.specs.Files.{desc_indexes}
use Rattle.dj_rename.proofs.PoolLaws.{is_need}
use Rattle.dj_rewritten.proofs.Kept.{there}
use Rattle.dj_names.specs.trusted.Names.{IsClassName}
use Rattle.dj_frames.specs.Laws.{WrittenIsStackMap, StackMapIsWellFormed}
use Rattle.dj_model.specs.trusted.Program.{Program, Class, Method, Code}
use Rattle.dj_model.specs.Program.{class_map, method_map, field_map}
use Rattle.dj_declarations.specs.trusted.Files.{declared_class}
use Rattle.dj_program.specs.trusted.Programs.{AreSideBySide, IsMethodIn, field_in_file, IsClassIn}
use Rattle.dj_groups.specs.Rewritten.{rewritten_code}
use Rattle.dj_rename.specs.Pools.{rewritten_pool}
use Rattle.dj_rewritten.specs.Files.{rewritten_field, IsRewrittenMethod, IsRewrittenFile}
use Rattle.dj_rewritten.specs.Rewritable.{IsRewritable}
use Rattle.dj_rewritten.proofs.Heads.{class_read, interfaces_read}
use Rattle.dj_rewritten.proofs.Classes.{method_read}
use Rattle.dj_rewritten.proofs.Fields.{IsKnown, HasValue, field_read}

-- ---- each constant names what belongs there

abbrev IsLinkedAt : List Constant → Option Constant → Type 0
IsLinkedAt pool None = ⊤
IsLinkedAt pool (Some k) = IsLinked pool k

linked_at : (pool : List Constant) (two : Bool) (k : Constant) (ks : List Constant) (i : ℕ) → IsLinked pool k → ((j : ℕ) → IsLinkedAt pool (slice_get ks j)) → IsLinkedAt pool (slice_get (cond two (k ∷ (Hole ∷ ks)) (k ∷ ks)) i)
linked_at pool true k ks zero one more = one
linked_at pool true k ks (suc zero) one more = tt
linked_at pool true k ks (suc (suc i)) one more = more i
linked_at pool false k ks zero one more = one
linked_at pool false k ks (suc i) one more = more i

linked_from : (pool ks : List Constant) → AllByRecursion (IsConstant pool) ks → (i : ℕ) → IsLinkedAt pool (slice_get (indexed ks) i)
unfolding indexed
linked_from pool [] each i = tt
linked_from pool (k ∷ ks) each i = linked_at pool (takes_two k) k (indexed ks) i each.0.1 (linked_from pool ks each.1)

pub linked : (pool : List Constant) → IsPool pool → (i : ℕ) (k : Constant) → constant_at pool i ≡ Some k → IsLinked pool k
linked pool valid zero k at = absurd cc
linked pool valid (suc i) k at =
    subst (IsLinkedAt pool) at (subst (λ (ks : List Constant). IsLinkedAt pool (slice_get ks i)) (sym valid.indexes) (linked_from pool valid.constants valid.each i))

-- ---- what is known of a member

is_itself : (a : Need) → is_need a a ≡ true
is_itself a = rw (eq-eqb a.index a.index refl, (bytes_decides a.text a.text).1 refl) refl

or_right : (a b : Bool) → b ≡ true → (a || b) ≡ true
or_right true b e = refl
or_right false b e = e

among : (pool : List Constant) (descs : List ℕ) (d : ℕ) → Contains descs d → list_any (is_need (desc_need pool d d)) (map (λ desc. desc_need pool desc desc) descs) ≡ true
among pool [] d (k, less, is) = absurd (omega (arith, less))
among pool (x ∷ descs) d (zero, less, is) =
    let e : x ≡ d = is in
    ap (λ (b : Bool). b || list_any (is_need (desc_need pool d d)) (map (λ desc. desc_need pool desc desc) descs))
    (ap (λ (y : ℕ). is_need (desc_need pool d d) (desc_need pool y y)) e ∙ is_itself (desc_need pool d d))
among pool (x ∷ descs) d (suc k, less, is) = or_right _ _ (among pool descs d (k, omega (arith, less), is))

needed : (pool : List Constant) (descs : List ℕ) (d : ℕ) → Contains descs d → list_any (is_need (desc_need pool d d)) (needs pool descs) ≡ true
unfolding needs
needed pool descs d h =
    list_any-append (is_need (desc_need pool d d)) (needs_from pool 1 pool) (map (λ desc. desc_need pool desc desc) descs)
    ∙ or_right _ _ (among pool descs d h)

module _ (pool : List Constant) (members : List ℕ) (links : (i : ℕ) (k : Constant) → constant_at pool i ≡ Some k → IsLinked pool k) where
  pub field_known : (f : MemberInfo) → IsField pool f → Contains members f.desc → IsKnown pool members links f
  field_known f valid own =
      let n = there IsUnqualifiedName (text_at pool f.name) valid.name in
      let d = there IsFieldDescriptor (text_at pool f.desc) valid.desc in
      record { name = n.value; desc = d.value; name_is = n.is; desc_is = d.is; d = descs.Field d.such.0; describes = d.such.1; needed = needed pool members f.desc own }

  pub method_known : (m : MemberInfo) → IsMethod pool m → Contains members m.desc → IsKnown pool members links m
  method_known m valid own =
      let n = there IsMethodName (text_at pool m.name) valid.name in
      let d = there IsMethodDescriptor (text_at pool m.desc) valid.desc in
      record { name = n.value; desc = d.value; name_is = n.is; desc_is = d.is; d = descs.Method d.such.0 d.such.1; describes = d.such.2; needed = needed pool members m.desc own }

  -- ---- constants of fields

  index_told : (index : ℕ) → index < 2 ^ 16 → value_index (u2 index) ≡ Some index
  index_told index small = ap Some (omega (arith, small))

  -- a body that can't be that of a faulty ConstantValue names a constant
  has_value : (desc : ℕ) (body : List ℕ) → ((IsValueFor pool desc body → ⊥) → ⊥) → HasValue pool members links body
  has_value desc body sound = by_index (value_index body) refl where
    value_told : (is : IsValueFor pool desc body) → value_index body ≡ Some is.index
    value_told is = ap value_index is.are ∙ index_told is.index is.small

    by_constant : (i : ℕ) → value_index body ≡ Some i → (o : Option Constant) → constant_at pool i ≡ o → HasValue pool members links body
    by_constant i e (Some k) c = (i, k, e, c)
    by_constant i e None c = absurd (sound (λ is. no is (same_Some is.index i (sym (value_told is) ∙ e)))) where
      no : (is : IsValueFor pool desc body) → is.index ≡ i → ⊥
      no is same = none-some is.names.constant (sym c ∙ ap (constant_at pool) (sym same) ∙ is.names.found)

    by_index : (o : Option ℕ) → value_index body ≡ o → HasValue pool members links body
    by_index (Some i) e = by_constant i e (constant_at pool i) refl
    by_index None e = absurd (sound (λ is. none-some is.index (sym e ∙ value_told is)))

  values : (f : MemberInfo) → (IsFaultyField pool f → ⊥) → (bodies : List (List ℕ)) → ((body : List ℕ) → Contains bodies body → Contains (values_of pool f) body) → AllByRecursion (HasValue pool members links) bodies
  values f sound [] within = tt
  values f sound (body ∷ bodies) within = (
    has_value f.desc body (λ never. sound (inr (body, within body (0, omega arith, refl), never))),
    values f sound bodies (λ other (k, less, is). within other (suc k, omega (arith, less), is)),
  )

  -- each field, read again
  pub fields_read : (fields : List MemberInfo) → ((f : MemberInfo) → Contains fields f → IsField pool f × Contains members f.desc × (IsFaultyField pool f → ⊥))
      → map (field_in_file (rewritten_pool pool members)) (map (rewritten_field pool members) fields) ≡ map (field_map in_sandbox) (map (field_in_file pool) fields)
  fields_read [] each = refl
  fields_read (f ∷ fields) each =
      let own = each f (0, omega arith, refl) in
      let one = field_read pool members links f (field_known f own.0 own.1) (values f own.2 (values_of pool f) (λ body has. has)) in
      rw (one, fields_read fields (λ g (k, less, is). each g (suc k, omega (arith, less), is))) refl

-- ---- the class

contains_map : {A B : Type 0} (f : A → B) (xs : List A) (x : A) → Contains xs x → Contains (map f xs) (f x)
contains_map f [] x (k, less, is) = absurd (omega (arith, less))
contains_map f (y ∷ xs) x (zero, less, is) = (0, omega arith, ap f is)
contains_map f (y ∷ xs) x (suc k, less, is) = let rest = contains_map f xs x (k, omega (arith, less), is) in (suc rest.0, omega (arith, rest.1), rest.2)

contains_left : {A : Type 0} (xs ys : List A) (x : A) → Contains xs x → Contains (xs ++ ys) x
contains_left [] ys x (k, less, is) = absurd (omega (arith, less))
contains_left (y ∷ xs) ys x (zero, less, is) = (0, omega arith, is)
contains_left (y ∷ xs) ys x (suc k, less, is) = let rest = contains_left xs ys x (k, omega (arith, less), is) in (suc rest.0, omega (arith, rest.1), rest.2)

contains_right : {A : Type 0} (xs ys : List A) (x : A) → Contains ys x → Contains (xs ++ ys) x
contains_right [] ys x h = h
contains_right (y ∷ xs) ys x h = let rest = contains_right xs ys x h in (suc rest.0, omega (arith, rest.1), rest.2)

each_valid : (P : MemberInfo → Type 0) (xs : List MemberInfo) (x : MemberInfo) → AllByRecursion P xs → Contains xs x → P x
each_valid P [] x all (k, less, is) = absurd (omega (arith, less))
each_valid P (y ∷ xs) x all (zero, less, is) = subst P is all.0
each_valid P (y ∷ xs) x all (suc k, less, is) = each_valid P xs x all.1 (k, omega (arith, less), is)

module _ (written : WrittenIsStackMap) (formed : StackMapIsWellFormed) (program : Program) (c : ClassFile) (good : IsRewritable c) where
  abbrev members : List ℕ
  members = desc_indexes c

  abbrev new : List Constant
  new = rewritten_pool c.pool members

  links : (i : ℕ) (k : Constant) → constant_at c.pool i ≡ Some k → IsLinked c.pool k
  links = linked c.pool good.valid.pool

  abbrev g : Code → Code
  g = rewritten_code program

  methods_read : (ms ns : List MemberInfo) (methods : List Method) → ((m : MemberInfo) → Contains ms m → Contains c.methods m)
      → AreSideBySide (IsRewrittenMethod program c.pool members) ms ns → AreSideBySide (IsMethodIn c.pool) ms methods
      → AreSideBySide (IsMethodIn new) ns (map (method_map in_sandbox g) methods)
  methods_read [] [] [] within r h = tt
  methods_read [] [] (x ∷ methods) within r h = absurd h
  methods_read [] (n ∷ ns) methods within r h = absurd r
  methods_read (m ∷ ms) [] methods within r h = absurd r
  methods_read (m ∷ ms) (n ∷ ns) [] within r h = absurd h
  methods_read (m ∷ ms) (n ∷ ns) (x ∷ methods) within r h =
      let own : Contains c.methods m = within m (0, omega arith, refl) in (
        method_read written formed program c.pool members links m n x
            (method_known c.pool members links m (each_valid (IsMethod c.pool) c.methods m good.valid.methods own) (contains_right (map (λ (f : MemberInfo). f.desc) c.fields) (map (λ (f : MemberInfo). f.desc) c.methods) m.desc (contains_map (λ (f : MemberInfo). f.desc) c.methods m own)))
            (λ fault. good.whole (inl (m, own, fault))) (good.codes m own) r.0 h.0,
        methods_read ms ns methods (λ other (k, less, is). within other (suc k, omega (arith, less), is)) r.1 h.1,
      )

  -- the rewritten file
  abbrev made : List MemberInfo → ClassFile
  made methods = record {
    minor = c.minor;
    major = c.major;
    pool = new;
    flags = c.flags;
    this_class = c.this_class;
    super_class = c.super_class;
    interfaces = c.interfaces;
    fields = map (rewritten_field c.pool members) c.fields;
    methods = methods;
    attributes = [];
  }

  superclass_read : (c.super_class ≡ 0) ⊎ NamesClass c.pool c.super_class → class_name_at new c.super_class ≡ option_map in_sandbox (class_name_at c.pool c.super_class)
  superclass_read (inl none) = ap (class_name_at new) none ∙ sym (ap (λ (i : ℕ). option_map in_sandbox (class_name_at c.pool i)) none)
  superclass_read (inr named) = class_read c.pool members c.super_class named

  name_read_again : this_name (made []) ≡ in_sandbox (this_name c)
  name_read_again = by_name (class_name_at c.pool c.this_class) refl good.valid.this_class where
    by_name : (o : Option Name) → class_name_at c.pool c.this_class ≡ o → IsSomeAnd o IsClassName → unwrap_or (class_name_at new c.this_class) [] ≡ in_sandbox (unwrap_or (class_name_at c.pool c.this_class) [])
    by_name (Some text) e is = ap (λ (o : Option Name). unwrap_or o []) (class_read c.pool members c.this_class good.valid.this_class ∙ ap (option_map in_sandbox) e) ∙ sym (ap (λ (o : Option Name). in_sandbox (unwrap_or o [])) e)
    by_name None e is = absurd is

  made_read : (ns : List MemberInfo) (class : Class) → AreSideBySide (IsRewrittenMethod program c.pool members) c.methods ns → IsClassIn c class → IsClassIn (made ns) (class_map in_sandbox g class)
  unfolding declared_class
  made_read ns class each x = record {
    methods = map (method_map in_sandbox g) x.methods;
    each = methods_read c.methods ns x.methods (λ m has. has) each x.each;
    is =
        ap (class_map in_sandbox g) x.is
        ∙ rw (
          sym name_read_again,
          sym (superclass_read good.valid.super_class),
          sym (interfaces_read c.pool members c.interfaces good.valid.interfaces),
          sym (fields_read c.pool members links c.fields (λ f has. (
            each_valid (IsField c.pool) c.fields f good.valid.fields has,
            contains_left (map (λ (y : MemberInfo). y.desc) c.fields) (map (λ (y : MemberInfo). y.desc) c.methods) f.desc (contains_map (λ (y : MemberInfo). y.desc) c.fields f has),
            λ fault. good.whole (inr (f, has, fault)),
          ))),
        ) refl;
  }

  -- A rewritten file's class is the class with the other names and the rewritten code.
  pub read_back : (d : ClassFile) (class : Class) → IsRewrittenFile program c d → IsClassIn c class → IsClassIn d (class_map in_sandbox g class)
  read_back d class r x = subst (λ (y : ClassFile). IsClassIn y (class_map in_sandbox g class)) (sym r.is) (made_read r.methods class r.each x)
