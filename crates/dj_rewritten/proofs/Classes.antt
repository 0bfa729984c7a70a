-- A rewritten class, read again: its methods, its fields and its names.
use Rattle.std.proofs.Common.{◌≡◌, ℕ, zero, suc, ◌≤◌, Bool, true, false, List, [], ◌∷◌, map, filter, length, Some, refl, sym, ap, subst, ◌∙◌, arith, inl, inr, codes, if◌then◌else◌}
use Rattle.std.specs.Prelude.{◌≢◌, Contains, IsTrue, IsFalse}
use Rattle.dj_names.specs.Types.{in_sandbox, desc_map}
use Rattle.dj_names.specs.trusted.Types.{Name}
use Rattle.dj_pool.specs.trusted.Pool.{Constant, constant_at, IsLinked}
use Rattle.dj_class.specs.trusted.ClassFile.{AttributeInfo, MemberInfo}
use Rattle.dj_frames.specs.Laws.{WrittenIsStackMap, StackMapIsWellFormed}
use Rattle.dj_frames.specs.Moves.{moved_frame}
use Rattle.dj_early_rules.specs.trusted.Attributes.{is_named, codes_of}
use Rattle.dj_early_rules.specs.trusted.Malformed.{IsFaultyMethod}
use Rattle.dj_model.specs.trusted.Program.{Program, Method, Body, Runs, Code}
use Rattle.dj_model.specs.Program.{method_map, body_map}
use Rattle.dj_declarations.specs.trusted.Files.{is_bodiless, name_in, desc_in, declared_method}
use Rattle.dj_program.specs.trusted.Codes.{CodeParts, code_in, IsMethodCode}
use Rattle.dj_program.specs.trusted.Programs.{AreSideBySide, IsBodyIn, IsMethodIn}
use Rattle.dj_program.proofs.Once.{one_code_parts}
use Rattle.dj_groups.specs.Groups.{Group, groups_of, starts, owns}
use Rattle.dj_groups.specs.Rewritten.{rewritten_code}
use Rattle.dj_rename.specs.Pools.{appended_texts, first_index, rewritten_pool}
use Rattle.dj_rewritten.specs.Files.{without_synchronized, IsRewrittenBody, IsRewrittenMethod}
use Rattle.dj_rewritten.specs.Rewritable.{HasGoodParts}
use Rattle.dj_rewritten.proofs.Bodies.{bodies_filtered, body_read}
use Rattle.dj_rewritten.proofs.Codes.{rewritten_in}
use Rattle.dj_rewritten.proofs.Fields.{IsKnown, name_read, desc_read_again, named_kept_too}
use Rattle.dj_rewritten.proofs.Frames.{frames_moved}
use Rattle.dj_rewritten.proofs.Methods.{length_map, as_many_groups, old_count, frames_formed, laid_cut, laid_count, laid_rise, laid_short, bodiless_kept}

-- ---- the one Code attribute

one_number : (n m : ℕ) → ((n ≢ m) → ⊥) → n ≡ m
one_number zero zero never = refl
one_number zero (suc m) never = absurd (never (λ e. absurd cc))
one_number (suc n) zero never = absurd (never (λ e. absurd cc))
one_number (suc n) (suc m) never = ap suc (one_number n m (λ differ. never (λ e. differ (omega (arith, e)))))

nothing_in : {A : Type 0} (x : A) → Contains [] x → ⊥
nothing_in {A} x (k, lt, is) = absurd (omega (arith, lt))

one_attribute : (pool : List Constant) (m : MemberInfo) (parts : CodeParts) → (IsFaultyMethod pool m → ⊥) → IsMethodCode pool m parts
    → length (filter (is_named pool (codes "Code")) m.attributes) ≡ 1
one_attribute pool m parts sound x =
    let some : codes_of pool m ≢ [] = λ none. nothing_in x.own.body (subst (λ (bodies : List (List ℕ)). Contains bodies x.own.body) none x.own.own) in
    let one : length (codes_of pool m) ≡ 1 = one_number (length (codes_of pool m)) 1 (λ differ. sound (inl (λ bodiless. sound (inr (inl (bodiless, some))), differ))) in
    sym (length_map (λ (a : AttributeInfo). a.body) (filter (is_named pool (codes "Code")) m.attributes)) ∙ sym (ap length (bodies_filtered pool (codes "Code") m.attributes)) ∙ one

-- what stands beside the one
pub record Beside {A B : Type 0} (Stand : A → B → Type 0) (xs : List A) (ys : List B) : Type 0 where
  pub left : A
  pub right : B
  pub lefts : xs ≡ left ∷ []
  pub rights : ys ≡ right ∷ []
  pub stand : Stand left right

one_beside : {A B : Type 0} (Stand : A → B → Type 0) (xs : List A) (ys : List B) → length xs ≡ 1 → AreSideBySide Stand xs ys → Beside Stand xs ys
one_beside Stand [] ys e h = absurd (omega (arith, e))
one_beside Stand (x ∷ []) [] e h = absurd h
one_beside Stand (x ∷ []) (y ∷ []) e h = record { left = x; right = y; lefts = refl; rights = refl; stand = h.0 }
one_beside Stand (x ∷ []) (y ∷ z ∷ zs) e h = absurd h.1
one_beside Stand (x ∷ z ∷ zs) ys e h = absurd (omega (arith, e))

named_left : (pool : List Constant) (name : Name) (attributes : List AttributeInfo) (a : AttributeInfo) → filter (is_named pool name) attributes ≡ a ∷ [] → is_named pool name a ≡ true
named_left pool name [] a e = absurd cc
named_left pool name (x ∷ xs) a e = go (is_named pool name x) refl e (named_left pool name xs a) where
  go : (b : Bool) → is_named pool name x ≡ b → (if b then x ∷ filter (is_named pool name) xs else filter (is_named pool name) xs) ≡ a ∷ []
      → (filter (is_named pool name) xs ≡ a ∷ [] → is_named pool name a ≡ true) → is_named pool name a ≡ true
  go true named e later = let same : x ≡ a = cc in subst (λ (y : AttributeInfo). is_named pool name y ≡ true) same named
  go false named e later = later e

-- ---- methods

module _ (written : WrittenIsStackMap) (formed : StackMapIsWellFormed) (program : Program) (pool : List Constant) (members : List ℕ)
    (linked : (i : ℕ) (k : Constant) → constant_at pool i ≡ Some k → IsLinked pool k) where
  abbrev new : List Constant
  new = rewritten_pool pool members

  abbrev first : ℕ
  first = first_index pool (appended_texts pool members)

  -- the code of the new method
  code_again : (m n : MemberInfo) (a b : AttributeInfo) → n.attributes ≡ b ∷ [] → is_named pool (codes "Code") a ≡ true → (body : IsRewrittenBody program pool first m a b)
      → HasGoodParts pool body.parts
      → (parts : CodeParts) × IsMethodCode new n parts × (code_in new parts ≡ rewritten_code program (code_in pool body.parts))
  code_again m n a b alone named body good =
      let gs : List Group = groups_of program (code_in pool body.parts) in
      let laid = body.rewritten.laid in
      let many : length gs ≡ length body.parts.labelled.code = as_many_groups program pool body.parts in
      let few : length body.code.info.code ≤ 65535 = omega (arith, body.code.own.is.valid.few_code) in
      let old = frames_formed formed pool m body.parts body.code few good.frames good.some in
      let moved = frames_moved gs laid.starts (laid_rise program first gs body.parts.labelled laid many body.rewritten.is_laid) (laid_short program first gs body.parts.labelled laid many body.rewritten.is_laid)
      (laid_count program first gs body.parts.labelled laid many body.rewritten.is_laid) body.code.labels.starts good.frames
      (old_count formed pool m body.parts body.code few ∙ sym many) old in
      let same_name : a.name ≡ b.name = sym (ap (λ (x : AttributeInfo). x.name) body.is) in (
        _,
        body_read program pool new first m n a b (named_code (codes "Code") a b same_name named) alone (λ x y e h. named_code (codes "StackMapTable") y x (sym e) h) body body.rewritten.valid
            (laid_cut program first gs body.parts.labelled laid many body.rewritten.is_laid) good.frames good.some
            (written laid.starts (map (moved_frame (starts gs) (owns gs)) good.frames) moved),
        rewritten_in pool members linked program body.parts good.constants good.classes,
      ) where
        named_code : (name : Name) (x y : AttributeInfo) → x.name ≡ y.name → is_named pool name x ≡ true → is_named new name y ≡ true
        named_code name x y e h = subst (λ (n : ℕ). is_named new name (record y { name = n }) ≡ true) e (named_kept_too pool members linked name x h)

  abbrev g : Code → Code
  g = rewritten_code program

  abbrev AreGoodCodes : MemberInfo → Type 0
  AreGoodCodes m = (parts : CodeParts) → IsMethodCode pool m parts → HasGoodParts pool parts

  -- a method's body, whether it has code or not
  body_again : (m n : MemberInfo) (body : Body) → n.flags ≡ without_synchronized m.flags → (IsFaultyMethod pool m → ⊥) → AreGoodCodes m
      → AreSideBySide (IsRewrittenBody program pool first m) (filter (is_named pool (codes "Code")) m.attributes) n.attributes → IsBodyIn pool m body → IsBodyIn new n (body_map g body)
  body_again m n body same sound good each (inl (t, e)) =
      inl (subst IsTrue (sym (ap is_bodiless same ∙ bodiless_kept m.flags)) t, ap (body_map g) e)
  body_again m n body same sound good each (inr (t, parts, code, e)) =
      let one = one_beside (IsRewrittenBody program pool first m) (filter (is_named pool (codes "Code")) m.attributes) n.attributes (one_attribute pool m parts sound code) each in
      let rewritten_body = one.stand in
      let again = code_again m n one.left one.right one.rights (named_left pool (codes "Code") m.attributes one.left one.lefts) rewritten_body (good rewritten_body.parts rewritten_body.code) in
      let parts_same : parts ≡ rewritten_body.parts = one_code_parts pool m parts rewritten_body.parts sound code rewritten_body.code in
      inr (
        subst IsFalse (sym (ap is_bodiless same ∙ bodiless_kept m.flags)) t,
        again.0,
        again.1,
        ap (body_map g) e ∙ ap (λ (p : CodeParts). Runs (g (code_in pool p))) parts_same ∙ ap (λ (c : Code). Runs c) (sym again.2),
      )

  -- A method of the rewritten class is the method with the other names and the rewritten code.
  pub method_read : (m n : MemberInfo) (method : Method) → IsKnown pool members linked m → (IsFaultyMethod pool m → ⊥) → AreGoodCodes m
      → IsRewrittenMethod program pool members m n → IsMethodIn pool m method → IsMethodIn new n (method_map in_sandbox g method)
  method_read m n method known sound good r x =
      let flags_same : n.flags ≡ without_synchronized m.flags = ap (λ (y : MemberInfo). y.flags) r.is in
      let attributes_same : n.attributes ≡ r.attributes = ap (λ (y : MemberInfo). y.attributes) r.is in
      record {
        body = body_map g x.body;
        is_body = body_again m n x.body flags_same sound good
            (subst (λ (bs : List AttributeInfo). AreSideBySide (IsRewrittenBody program pool first m) (filter (is_named pool (codes "Code")) m.attributes) bs) (sym attributes_same) r.each) x.is_body;
        is =
            ap (method_map in_sandbox g) x.is
            ∙ ap (λ (text : Name). record { flags = without_synchronized m.flags; name = text; desc = desc_map in_sandbox (desc_in (name_in pool m.desc)); body = body_map g x.body }) (sym (name_read pool members linked m known))
            ∙ ap (λ d. record { flags = without_synchronized m.flags; name = name_in new m.name; desc = d; body = body_map g x.body }) (sym (desc_read_again pool members linked m known))
            ∙ ap (λ (y : MemberInfo). record (declared_method new y) { body = body_map g x.body }) (sym r.is);
      }
