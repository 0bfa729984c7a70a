-- The whole file.
use Rattle.std.proofs.Common.{◌≡◌, ◌≢◌, ℕ, zero, suc, ◌+◌, ◌<◌, ◌≤◌, ◌⊎◌, true, false, List, [], ◌∷◌, ◌++◌, map, filter, drop, length, refl, sym, ap, ap₂, subst, ◌∙◌, arith, inl, inr, codes, IsTrue}
use Rattle.std.specs.Prelude.{Contains}
use Rattle.std.specs.List.{AllByRecursion}
use Rattle.dj_pool.specs.trusted.Pool.{Constant}
use Rattle.dj_class.specs.trusted.ClassFile.{AttributeInfo, MemberInfo, ClassFile, NamesClass, IsValid, IsField, IsMethod, class_bytes}
use Rattle.dj_class.specs.trusted.Code.{CodeInfo, IsCode, code_info_bytes}
use Rattle.dj_class.proofs.CodeLaws.{one_code}
use Rattle.dj_layout.specs.declared.laid.Laid.{Laid}
use Rattle.dj_layout.proofs.Once.{one_layout_is}
use Rattle.dj_early_rules.specs.trusted.Attributes.{is_named, codes_of}
use Rattle.dj_early_rules.specs.trusted.Code.{IsCodeOf}
use Rattle.dj_early_rules.specs.trusted.Malformed.{IsFaultyMethod}
use Rattle.dj_model.specs.trusted.Program.{Program}
use Rattle.dj_groups.specs.Grouped.{labels_in_groups}
use Rattle.dj_program.specs.trusted.Codes.{CodeParts, IsMethodCode}
use Rattle.dj_program.specs.trusted.Programs.{AreSideBySide}
use Rattle.dj_program.proofs.Once.{one_code_parts}
use Rattle.dj_rename.specs.Pools.{rewritten_pool}
use Rattle.dj_rewritten.specs.Files.{desc_indexes, new_desc, without_synchronized, rewritten_map, rewritten_field, IsRewrittenCode, IsRewrittenBody, IsRewrittenMethod, IsRewrittenFile}
use Rattle.dj_rewritten.specs.TooLarge.{first_of_class, HasLargePool, IsTooLargeMethod, HasLargeMethod, IsTooLargeClass}
use Rattle.dj_rewritten.proofs.Bodies.{bodies_filtered}
use Rattle.dj_rewrite_code.specs.Answers.{groups_by, IsKnownMethod}
use Rattle.dj_rewrite.specs.declared.answers.MethodAnswer.{MethodAnswer}
use Rattle.dj_rewrite.specs.declared.answers.MethodAnswer.TheVariants as answers
use Rattle.dj_rewrite.specs.Answers.{desc_of, IsKnownClass, AnswersMethod, AreAnswers, HasLarge, WritesFile}
use Rattle.dj_rewrite.specs.Members.{methods_with}
use Rattle.dj_rewrite.specs.Steps.{IsNewPool, new_file, TellsMethod, TellsFile}
use Rattle.dj_rewrite.proofs.NewMembers.{length_map, new_of, fields_are, methods_are, method_descs, as_many_answers}
use Rattle.dj_rewrite.proofs.Validity.{class_there, classes_there, fields_valid, methods_valid}
use Rattle.dj_rewrite.proofs.Fits.{same_fit}

-- ---- lists

contains_map : {A B : Type 0} (f : A → B) (xs : List A) (x : A) → Contains xs x → Contains (map f xs) (f x)
contains_map f [] x (k, less, is) = absurd (omega (arith, less))
contains_map f (y ∷ xs) x (zero, less, is) = (0, omega arith, ap f is)
contains_map f (y ∷ xs) x (suc k, less, is) = let rest = contains_map f xs x (k, omega (arith, less), is) in (suc rest.0, omega (arith, rest.1), rest.2)

contains_left : {A : Type 0} (xs ys : List A) (x : A) → Contains xs x → Contains (xs ++ ys) x
contains_left [] ys x (k, less, is) = absurd (omega (arith, less))
contains_left (y ∷ xs) ys x (zero, less, is) = (0, omega arith, is)
contains_left (y ∷ xs) ys x (suc k, less, is) = let rest = contains_left xs ys x (k, omega (arith, less), is) in (suc rest.0, omega (arith, rest.1), rest.2)

contains_right : {A : Type 0} (xs ys : List A) (x : A) → Contains ys x → Contains (xs ++ ys) x
contains_right [] ys x h = h
contains_right (y ∷ xs) ys x h = let rest = contains_right xs ys x h in (suc rest.0, omega (arith, rest.1), rest.2)

-- ---- the file is the rewritten one

module _ (program : Program) (c : ClassFile) (known : IsKnownClass program c) where
  abbrev members : List ℕ
  members = desc_indexes c

  abbrev first : ℕ
  first = first_of_class c

  field_own : (f : MemberInfo) → Contains c.fields f → Contains members f.desc
  field_own f has = contains_left (map desc_of c.fields) (map desc_of c.methods) f.desc (contains_map desc_of c.fields f has)

  method_own : (m : MemberInfo) → Contains c.methods m → Contains members m.desc
  method_own m has = contains_right (map desc_of c.fields) (map desc_of c.methods) m.desc (contains_map desc_of c.methods m has)

  super_there : (c.super_class ≡ 0) ⊎ NamesClass c.pool c.super_class → (c.super_class ≡ 0) ⊎ NamesClass (rewritten_pool c.pool members) c.super_class
  super_there (inl none) = inl none
  super_there (inr named) = inr (class_there c.pool members known.valid.pool c.super_class named)

  methods_length : (made : List MethodAnswer) (descs : List ℕ) → length made ≡ length c.methods → length descs ≡ length c.methods → length (methods_with c.methods made descs) ≡ length c.methods
  methods_length made descs a b = go c.methods made descs a b where
    go : (ms : List MemberInfo) (made : List MethodAnswer) (descs : List ℕ) → length made ≡ length ms → length descs ≡ length ms → length (methods_with ms made descs) ≡ length ms
    go [] made descs a b = refl
    go (m ∷ ms) [] descs a b = absurd (omega (arith, a))
    go (m ∷ ms) (x ∷ made) [] a b = absurd (omega (arith, b))
    go (m ∷ ms) (x ∷ made) (d ∷ descs) a b = ap suc (go ms made descs (omega (arith, a)) (omega (arith, b)))

  module _ (pool : List Constant) (descs : List ℕ) (new : IsNewPool c pool descs) (made : List MethodAnswer) (each : AreAnswers program c.pool first c.methods made) where
    abbrev d : ClassFile
    d = new_file c pool descs made

    moved : (P : List Constant → Type 0) → P (rewritten_pool c.pool members) → P pool
    moved P h = subst P (sym new.is) h

    own_descs : drop (length c.fields) descs ≡ map (new_of c.pool members) (map desc_of c.methods)
    own_descs = ap (drop (length c.fields)) new.descs_are ∙ method_descs c

    descs_count : length (drop (length c.fields) descs) ≡ length c.methods
    descs_count = ap length own_descs ∙ length_map (new_of c.pool members) (map desc_of c.methods) ∙ length_map desc_of c.methods

    pub file_valid : IsValid d
    file_valid = record {
      minor = known.valid.minor;
      major = known.valid.major;
      pool = new.valid;
      flags = known.valid.flags;
      this_class = moved (λ p. NamesClass p c.this_class) (class_there c.pool members known.valid.pool c.this_class known.valid.this_class);
      super_class = moved (λ p. (c.super_class ≡ 0) ⊎ NamesClass p c.super_class) (super_there known.valid.super_class);
      interface_count = known.valid.interface_count;
      interfaces = moved (λ p. AllByRecursion (NamesClass p) c.interfaces) (classes_there c.pool members known.valid.pool c.interfaces known.valid.interfaces);
      field_count = (let e = ap length (fields_are c descs new.descs_are) ∙ length_map (rewritten_field c.pool members) c.fields in let few = known.valid.field_count in omega (arith, e, few));
      fields = subst (AllByRecursion (IsField pool)) (sym (fields_are c descs new.descs_are))
          (moved (λ p. AllByRecursion (IsField p) (map (rewritten_field c.pool members) c.fields)) (fields_valid c.pool members known.valid.pool c.fields known.valid.fields field_own));
      method_count = (let e = methods_length made (drop (length c.fields) descs) (as_many_answers _ c.methods made each) descs_count in let few = known.valid.method_count in omega (arith, e, few));
      methods = subst (λ (xs : List ℕ). AllByRecursion (IsMethod pool) (methods_with c.methods made xs)) (sym own_descs)
          (moved (λ p. AllByRecursion (IsMethod p) (methods_with c.methods made (map (new_of c.pool members) (map desc_of c.methods))))
          (methods_valid c.pool members known.valid.pool program first c.methods made known.valid.methods method_own each));
      attributes = record { count = omega arith; each = tt };
    }

    pub file_rewritten : (HasLarge made → ⊥) → IsRewrittenFile program c d
    file_rewritten fits = record {
      methods = methods_with c.methods made (drop (length c.fields) descs);
      each = methods_are program c descs made new.descs_are each fits;
      is = ap₂ (λ (p : List Constant) (fs : List MemberInfo). record d { pool = p; fields = fs }) new.is (fields_are c descs new.descs_are);
      valid = file_valid;
    }

  -- ---- methods

  none_there : {A : Type 0} (x : A) → Contains [] x → ⊥
  none_there x (k, lt, is) = absurd (omega (arith, lt))

  no_code : (m : MemberInfo) → filter (is_named c.pool (codes "Code")) m.attributes ≡ [] → (parts : CodeParts) → IsMethodCode c.pool m parts → ⊥
  no_code m none parts code =
      none_there code.own.body (subst (λ (bodies : List (List ℕ)). Contains bodies code.own.body)
      (bodies_filtered c.pool (codes "Code") m.attributes ∙ ap (map (λ (a : AttributeInfo). a.body)) none) code.own.own)

  one_told : (any : ℕ) (m : MemberInfo) (answer : MethodAnswer) → AnswersMethod program c.pool any m answer → TellsMethod program c m answer
  one_told any m answers.Bodiless none = (λ e. absurd cc, λ large. absurd (no_code m none large.parts large.code))
  one_told any m (answers.Rewritten code) has = (
    λ e. absurd cc,
    λ large. absurd (has.fits large.parts large.code (same_fit first any (groups_by program c.pool large.parts) large.parts large.such)),
  )
  one_told any m answers.TooLarge large = (
    λ e. record { parts = large.parts; code = large.code; such = same_fit any first (groups_by program c.pool large.parts) large.parts large.such },
    λ large. refl,
  )

  pub all_told : (any : ℕ) (ms : List MemberInfo) (made : List MethodAnswer) → AreAnswers program c.pool any ms made → AreSideBySide (TellsMethod program c) ms made
  all_told any [] [] each = tt
  all_told any [] (x ∷ made) each = absurd each
  all_told any (m ∷ ms) [] each = absurd each
  all_told any (m ∷ ms) (x ∷ made) each = (one_told any m x each.0, all_told any ms made each.1)

  -- no method is too large
  pub no_large : (any : ℕ) (made : List MethodAnswer) → AreAnswers program c.pool any c.methods made → (HasLarge made → ⊥) → HasLargeMethod program c → ⊥
  no_large any made each fits (m, has, large) = go c.methods made (all_told any c.methods made each) fits has where
    go : (ms : List MemberInfo) (made : List MethodAnswer) → AreSideBySide (TellsMethod program c) ms made → (HasLarge made → ⊥) → Contains ms m → ⊥
    go [] made told fits (k, lt, is) = absurd (omega (arith, lt))
    go (x ∷ ms) [] told fits has = absurd told
    go (x ∷ ms) (y ∷ made) told fits (zero, lt, is) = let same : x ≡ m = is in fits (0, omega arith, told.0.1 (subst (IsTooLargeMethod program c) (sym same) large))
    go (x ∷ ms) (y ∷ made) told fits (suc k, lt, is) = go ms made told.1 (λ (j, less, at). fits (suc j, omega (arith, less), at)) (k, omega (arith, lt), is)

  pub some_large : (any : ℕ) (made : List MethodAnswer) → AreAnswers program c.pool any c.methods made → HasLarge made → HasLargeMethod program c
  some_large any made each large = go c.methods made (all_told any c.methods made each) (λ m has. has) large where
    go : (ms : List MemberInfo) (made : List MethodAnswer) → AreSideBySide (TellsMethod program c) ms made → ((m : MemberInfo) → Contains ms m → Contains c.methods m) → HasLarge made → HasLargeMethod program c
    go [] [] told within (k, lt, is) = absurd (omega (arith, lt))
    go [] (y ∷ made) told within has = absurd told
    go (x ∷ ms) [] told within (k, lt, is) = absurd (omega (arith, lt))
    go (x ∷ ms) (y ∷ made) told within (zero, lt, is) = (x, within x (0, omega arith, refl), told.0.0 is)
    go (x ∷ ms) (y ∷ made) told within (suc k, lt, is) = go ms made told.1 (λ m (j, less, at). within m (suc j, omega (arith, less), at)) (k, omega (arith, lt), is)

  -- ---- one rewritten file

  one_number : (n k : ℕ) → ((n ≢ k) → ⊥) → n ≡ k
  one_number zero zero never = refl
  one_number zero (suc k) never = absurd (never (λ e. absurd cc))
  one_number (suc n) zero never = absurd (never (λ e. absurd cc))
  one_number (suc n) (suc k) never = ap suc (one_number n k (λ differ. never (λ e. differ (omega (arith, e)))))

  same_info : (m : MemberInfo) (i j : CodeInfo) → (IsFaultyMethod c.pool m → ⊥) → IsCodeOf c.pool m i → IsCodeOf c.pool m j → i ≡ j
  same_info m i j sound x y =
      let some : codes_of c.pool m ≢ [] = λ none. none_there x.body (subst (λ (bodies : List (List ℕ)). Contains bodies x.body) none x.own) in
      let one : length (codes_of c.pool m) ≡ 1 = one_number (length (codes_of c.pool m)) 1 (λ differ. sound (inl (λ bodiless. sound (inr (inl (bodiless, some))), differ))) in
      one_code y.body i j (subst (λ (b : List ℕ). IsCode b i) (alone (codes_of c.pool m) one x.body y.body x.own y.own) x.is) y.is where
        alone : (bodies : List (List ℕ)) → length bodies ≡ 1 → (a b : List ℕ) → Contains bodies a → Contains bodies b → a ≡ b
        alone [] e a b p q = absurd (omega (arith, e))
        alone (x ∷ []) e a b (zero, lt, is) (zero, less, at) = sym is ∙ at
        alone (x ∷ []) e a b (suc k, lt, is) q = absurd (omega (arith, lt))
        alone (x ∷ []) e a b (zero, lt, is) (suc k, less, at) = absurd (omega (arith, less))
        alone (x ∷ y ∷ bodies) e a b p q = absurd (omega (arith, e))

  one_body : (m : MemberInfo) (a b e : AttributeInfo) → (IsFaultyMethod c.pool m → ⊥) → IsRewrittenBody program c.pool first m a b → IsRewrittenBody program c.pool first m a e → b ≡ e
  one_body m a b e sound x y =
      let parts : x.parts ≡ y.parts = one_code_parts c.pool m x.parts y.parts sound x.code y.code in
      let info : x.code.info ≡ y.code.info = same_info m x.code.info y.code.info sound x.code.own y.code.own in
      let P : CodeParts → Type 0 = λ p. IsRewrittenCode program c.pool first x.code.info p x.new in
      let Q : CodeInfo → Type 0 = λ i. IsRewrittenCode program c.pool first i y.parts x.new in
      x.is ∙ ap (λ (n : CodeInfo). record { name = a.name; body = code_info_bytes n }) (same_code y.code.info y.parts x.new y.new (subst Q info (subst P parts x.rewritten)) y.rewritten) ∙ sym y.is where
        same_code : (info : CodeInfo) (parts : CodeParts) (p q : CodeInfo) → IsRewrittenCode program c.pool first info parts p → IsRewrittenCode program c.pool first info parts q → p ≡ q
        same_code info parts p q r s =
            let laid : r.laid ≡ s.laid = one_layout_is (labels_in_groups first (groups_by program c.pool parts) parts.labelled) r.laid s.laid r.is_laid s.is_laid in
            r.is ∙ ap (λ (l : Laid). code_with info parts l) laid ∙ sym s.is where
              code_with : CodeInfo → CodeParts → Laid → CodeInfo
              code_with i ps l = record {
                max_stack = i.max_stack + 2;
                max_locals = i.max_locals;
                code = l.code;
                table = l.table;
                attributes = map (rewritten_map (groups_by program c.pool ps) l.starts ps.frames) (filter (is_named c.pool (codes "StackMapTable")) i.attributes);
              }

  one_attribute : (m : MemberInfo) → (IsFaultyMethod c.pool m → ⊥) → (list xs ys : List AttributeInfo) → AreSideBySide (IsRewrittenBody program c.pool first m) list xs
      → AreSideBySide (IsRewrittenBody program c.pool first m) list ys → xs ≡ ys
  one_attribute m sound [] [] [] p q = refl
  one_attribute m sound [] (x ∷ xs) ys p q = absurd p
  one_attribute m sound [] [] (y ∷ ys) p q = absurd q
  one_attribute m sound (a ∷ list) [] ys p q = absurd p
  one_attribute m sound (a ∷ list) (x ∷ xs) [] p q = absurd q
  one_attribute m sound (a ∷ list) (x ∷ xs) (y ∷ ys) p q = ap₂ (λ (b : AttributeInfo) (bs : List AttributeInfo). b ∷ bs) (one_body m a x y sound p.0 q.0) (one_attribute m sound list xs ys p.1 q.1)

  one_method : (m x y : MemberInfo) → (IsFaultyMethod c.pool m → ⊥) → IsRewrittenMethod program c.pool members m x → IsRewrittenMethod program c.pool members m y → x ≡ y
  one_method m x y sound p q =
      p.is
      ∙ ap (λ (list : List AttributeInfo). record { flags = without_synchronized m.flags; name = m.name; desc = new_desc c.pool members m; attributes = list })
      (one_attribute m sound (filter (is_named c.pool (codes "Code")) m.attributes) p.attributes q.attributes p.each q.each)
      ∙ sym q.is

  one_methods : (ms xs ys : List MemberInfo) → AllByRecursion (IsKnownMethod program c.pool) ms → AreSideBySide (IsRewrittenMethod program c.pool members) ms xs
      → AreSideBySide (IsRewrittenMethod program c.pool members) ms ys → xs ≡ ys
  one_methods [] [] [] sound p q = refl
  one_methods [] (x ∷ xs) ys sound p q = absurd p
  one_methods [] [] (y ∷ ys) sound p q = absurd q
  one_methods (m ∷ ms) [] ys sound p q = absurd p
  one_methods (m ∷ ms) (x ∷ xs) [] sound p q = absurd q
  one_methods (m ∷ ms) (x ∷ xs) (y ∷ ys) sound p q =
      ap₂ (λ (b : MemberInfo) (bs : List MemberInfo). b ∷ bs) (one_method m x y sound.0.whole p.0 q.0) (one_methods ms xs ys sound.1 p.1 q.1)

  abbrev with_methods : List MemberInfo → ClassFile
  with_methods ns = record {
    minor = c.minor;
    major = c.major;
    pool = rewritten_pool c.pool members;
    flags = c.flags;
    this_class = c.this_class;
    super_class = c.super_class;
    interfaces = c.interfaces;
    fields = map (rewritten_field c.pool members) c.fields;
    methods = ns;
    attributes = [];
  }

  pub one_file : (x y : ClassFile) → IsRewrittenFile program c x → IsRewrittenFile program c y → x ≡ y
  one_file x y p q = p.is ∙ ap with_methods (one_methods c.methods p.methods q.methods known.methods p.each q.each) ∙ sym q.is

  -- ---- the answers

  pub told_file : (d : ClassFile) → (HasLargePool c → ⊥) → (HasLargeMethod program c → ⊥) → IsRewrittenFile program c d → 67108864 < length (class_bytes d) → IsTooLargeClass program c
  told_file d pool methods is past = inr (record { pool = pool; methods = methods; file = d; rewritten = is; past = past })

  pub written_file : (d : ClassFile) → (HasLargePool c → ⊥) → (HasLargeMethod program c → ⊥) → IsRewrittenFile program c d → length (class_bytes d) ≤ 67108864 → WritesFile program c (class_bytes d)
  written_file d pool methods is small = record { file = d; rewritten = is; is = refl; class_fits = fits; methods_fit = methods } where
    fits : IsTooLargeClass program c → ⊥
    fits (inl p) = pool p
    fits (inr f) = let e = ap (λ (x : ClassFile). length (class_bytes x)) (one_file f.file d f.rewritten is) in let past = f.past in omega (arith, e, past, small)

  pub told_large : (d : ClassFile) (any : ℕ) (made : List MethodAnswer) → (HasLargePool c → ⊥) → IsRewrittenFile program c d → 67108864 < length (class_bytes d)
      → AreAnswers program c.pool any c.methods made → (HasLarge made → ⊥) → TellsFile program c true made
  told_large d any made pool is past each fits =
      let large = told_file d pool (no_large any made each fits) is past in
      record { class_is = (λ t. large, λ l. refl); methods_are = all_told any c.methods made each; some = inl large }

  pub told_pool : HasLargePool c → (any : ℕ) (made : List MethodAnswer) → AreAnswers program c.pool any c.methods made → TellsFile program c true made
  told_pool large any made each = record { class_is = (λ t. inl large, λ l. refl); methods_are = all_told any c.methods made each; some = inl (inl large) }

  pub told_methods : (HasLargePool c → ⊥) → (any : ℕ) (made : List MethodAnswer) → AreAnswers program c.pool any c.methods made → HasLarge made → TellsFile program c false made
  told_methods pool any made each large =
      record { class_is = (λ t. absurd cc, neither); methods_are = all_told any c.methods made each; some = inr (some_large any made each large) } where
        neither : IsTooLargeClass program c → IsTrue false
        neither (inl p) = absurd (pool p)
        neither (inr file) = absurd (file.methods (some_large any made each large))
