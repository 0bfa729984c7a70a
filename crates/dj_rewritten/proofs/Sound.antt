-- A rewritten file has no faulty method.
use Rattle.std.proofs.Common.{◌≡◌, ℕ, zero, suc, ◌≤◌, Bool, true, false, List, [], ◌∷◌, map, filter, length, Some, refl, sym, ap, subst, ◌∙◌, arith, inl, inr, codes, if◌then◌else◌}
use Rattle.std.specs.Prelude.{Contains}
use Rattle.std.specs.Int.Bits.{bit_and}
use Rattle.std.proofs.lemmas.Nat.{and_assoc}
use Rattle.dj_names.specs.trusted.Types.{Name}
use Rattle.dj_pool.specs.trusted.Pool.{Constant, constant_at, IsLinked}
use Rattle.dj_class.specs.trusted.ClassFile.{AttributeInfo, MemberInfo, ClassFile}
use Rattle.dj_class.specs.trusted.Code.{CodeInfo, IsCode}
use Rattle.dj_early_rules.specs.trusted.Attributes.{is_named, bodies_of, codes_of, maps_of}
use Rattle.dj_early_rules.specs.trusted.Malformed.{IsBodiless, IsFaultyMethod, IsFaultyBody, IsFaultyCode, HasFaultyMethod}
use Rattle.dj_class.proofs.CodeLaws.{one_code}
use Rattle.dj_labels.specs.trusted.Labels.{IsLabelled}
use Rattle.dj_model.specs.trusted.Program.{Program}
use Rattle.dj_program.specs.trusted.Codes.{code_in}
use Rattle.dj_groups.specs.Groups.{Group, groups_of}
use Rattle.dj_groups.specs.Grouped.{labels_in_groups}
use Rattle.dj_program.specs.trusted.Programs.{AreSideBySide}
use Rattle.dj_rename.specs.Pools.{appended_texts, first_index, rewritten_pool}
use Rattle.dj_rewritten.specs.Files.{desc_indexes, rewritten_map, IsRewrittenBody, IsRewrittenMethod, IsRewrittenFile}
use Rattle.dj_rewritten.proofs.Bodies.{same_bodies, bodies_filtered}
use Rattle.dj_rewritten.proofs.Fields.{named_kept_too}
use Rattle.dj_rewritten.proofs.Methods.{length_map}

-- ---- flags

-- bits 8 and 10 are those of the flags before
pub bodiless_before : (m n : MemberInfo) → n.flags ≡ bit_and m.flags 65503 → IsBodiless n → IsBodiless m
bodiless_before m n e (inl on) = inl (λ none. on (ap (λ (f : ℕ). bit_and f 256) e ∙ and_assoc 256 m.flags 65503 ∙ none))
bodiless_before m n e (inr on) = inr (λ none. on (ap (λ (f : ℕ). bit_and f 1024) e ∙ and_assoc 1024 m.flags 65503 ∙ none))

pub bodiless_after : (m n : MemberInfo) → n.flags ≡ bit_and m.flags 65503 → IsBodiless m → IsBodiless n
bodiless_after m n e (inl on) = inl (λ none. on (sym (and_assoc 256 m.flags 65503) ∙ sym (ap (λ (f : ℕ). bit_and f 256) e) ∙ none))
bodiless_after m n e (inr on) = inr (λ none. on (sym (and_assoc 1024 m.flags 65503) ∙ sym (ap (λ (f : ℕ). bit_and f 1024) e) ∙ none))

-- ---- lists

beside_lengths : {A B : Type 0} (Stand : A → B → Type 0) (xs : List A) (ys : List B) → AreSideBySide Stand xs ys → length xs ≡ length ys
beside_lengths Stand [] [] h = refl
beside_lengths Stand [] (y ∷ ys) h = absurd h
beside_lengths Stand (x ∷ xs) [] h = absurd h
beside_lengths Stand (x ∷ xs) (y ∷ ys) h = ap suc (beside_lengths Stand xs ys h.1)

module _ (program : Program) (pool : List Constant) (members : List ℕ) (links : (i : ℕ) (k : Constant) → constant_at pool i ≡ Some k → IsLinked pool k) (m : MemberInfo) where
  abbrev new : List Constant
  new = rewritten_pool pool members

  abbrev first : ℕ
  first = first_index pool (appended_texts pool members)

  abbrev Stand : AttributeInfo → AttributeInfo → Type 0
  Stand = IsRewrittenBody program pool first m

  named_again : (name : Name) (x y : AttributeInfo) → x.name ≡ y.name → is_named pool name x ≡ true → is_named new name y ≡ true
  named_again name x y e h = subst (λ (n : ℕ). is_named new name (record y { name = n }) ≡ true) e (named_kept_too pool members links name x h)

  -- a body among the new ones, and the attribute that it is of
  record HasStand (body : List ℕ) : Type 0 where
    pub left : AttributeInfo
    pub right : AttributeInfo
    pub stand : Stand left right
    pub is : body ≡ right.body

  all_named : (attributes ys : List AttributeInfo) → AreSideBySide Stand (filter (is_named pool (codes "Code")) attributes) ys
      → bodies_of new (codes "Code") ys ≡ map (λ (a : AttributeInfo). a.body) ys
  all_named [] [] h = refl
  all_named [] (y ∷ ys) h = absurd h
  all_named (x ∷ xs) ys h = go (is_named pool (codes "Code") x) refl ys h (all_named xs) where
    go : (b : Bool) → is_named pool (codes "Code") x ≡ b → (ys : List AttributeInfo)
        → AreSideBySide Stand (if b then x ∷ filter (is_named pool (codes "Code")) xs else filter (is_named pool (codes "Code")) xs) ys
        → ((zs : List AttributeInfo) → AreSideBySide Stand (filter (is_named pool (codes "Code")) xs) zs → bodies_of new (codes "Code") zs ≡ map (λ (a : AttributeInfo). a.body) zs)
        → bodies_of new (codes "Code") ys ≡ map (λ (a : AttributeInfo). a.body) ys
    go false e ys h later = later ys h
    go true e [] h later = absurd h
    go true e (y ∷ ys) h later = rw (named_again (codes "Code") x y (sym (ap (λ (a : AttributeInfo). a.name) h.0.is)) e, later ys h.1) refl

  stands : (xs ys : List AttributeInfo) (body : List ℕ) → AreSideBySide Stand xs ys → Contains (map (λ (a : AttributeInfo). a.body) ys) body → HasStand body
  stands [] [] body h (k, less, is) = absurd (omega (arith, less))
  stands [] (y ∷ ys) body h has = absurd h
  stands (x ∷ xs) [] body h has = absurd h
  stands (x ∷ xs) (y ∷ ys) body h (zero, less, is) = record { left = x; right = y; stand = h.0; is = sym is }
  stands (x ∷ xs) (y ∷ ys) body h (suc k, less, is) = stands xs ys body h.1 (k, omega (arith, less), is)

  -- a new body isn't faulty
  body_good : (x y : AttributeInfo) (body : List ℕ) → Stand x y → body ≡ y.body → (IsFaultyMethod pool m → ⊥) → IsFaultyBody new body → ⊥
  body_good x y body s e sound (inl none) = none s.new (record { spelled = e ∙ ap (λ (a : AttributeInfo). a.body) s.is; valid = s.rewritten.valid })
  body_good x y body s e sound (inr (code, is, fault)) =
      let own : IsCode body s.new = record { spelled = e ∙ ap (λ (a : AttributeInfo). a.body) s.is; valid = s.rewritten.valid } in
      let same : s.new ≡ code = one_code body s.new code own is in
      by_fault (subst (λ (c : CodeInfo). IsFaultyCode new c) (sym same) fault) where
        gs : List Group
        gs = groups_of program (code_in pool s.parts)

        maps : List AttributeInfo
        maps = filter (is_named pool (codes "StackMapTable")) s.code.info.attributes

        maps_same : length (maps_of new s.new) ≡ length (maps_of pool s.code.info)
        maps_same =
            ap (λ (c : CodeInfo). length (maps_of new c)) s.rewritten.is
            ∙ ap length (same_bodies pool new (codes "StackMapTable") (rewritten_map gs s.rewritten.laid.starts s.parts.frames) s.code.info.attributes
            (λ a h. named_again (codes "StackMapTable") a (rewritten_map gs s.rewritten.laid.starts s.parts.frames a) refl h))
            ∙ length_map (λ (a : AttributeInfo). (rewritten_map gs s.rewritten.laid.starts s.parts.frames a).body) maps
            ∙ sym (ap length (bodies_filtered pool (codes "StackMapTable") s.code.info.attributes) ∙ length_map (λ (a : AttributeInfo). a.body) maps)

        by_fault : IsFaultyCode new s.new → ⊥
        by_fault (inl unlabelled) =
            unlabelled (labels_in_groups first gs s.parts.labelled)
            (subst (λ (c : CodeInfo). IsLabelled c.code c.table (labels_in_groups first gs s.parts.labelled)) (sym s.rewritten.is) s.rewritten.is_laid.labels)
        by_fault (inr two) = sound (inr (inr (s.code.own.body, s.code.own.own, inr (s.code.info, s.code.own.is, inr (subst (λ (n : ℕ). 2 ≤ n) maps_same two)))))

  -- A method of the rewritten class isn't faulty.
  pub method_good : (n : MemberInfo) → (IsFaultyMethod pool m → ⊥) → IsRewrittenMethod program pool members m n → IsFaultyMethod new n → ⊥
  method_good n sound r fault = by_fault fault where
    each : AreSideBySide Stand (filter (is_named pool (codes "Code")) m.attributes) n.attributes
    each = subst (λ (bs : List AttributeInfo). AreSideBySide Stand (filter (is_named pool (codes "Code")) m.attributes) bs) (sym (ap (λ (y : MemberInfo). y.attributes) r.is)) r.each

    flags_same : n.flags ≡ bit_and m.flags 65503
    flags_same = ap (λ (y : MemberInfo). y.flags) r.is

    bodies_are : codes_of new n ≡ map (λ (a : AttributeInfo). a.body) n.attributes
    bodies_are = all_named m.attributes n.attributes each

    count : length (codes_of new n) ≡ length (codes_of pool m)
    count =
        ap length bodies_are ∙ length_map (λ (a : AttributeInfo). a.body) n.attributes ∙ sym (beside_lengths Stand (filter (is_named pool (codes "Code")) m.attributes) n.attributes each)
        ∙ sym (ap length (bodies_filtered pool (codes "Code") m.attributes) ∙ length_map (λ (a : AttributeInfo). a.body) (filter (is_named pool (codes "Code")) m.attributes))

    none_left : (xs : List (List ℕ)) → xs ≡ [] → length xs ≡ 0
    none_left xs e = ap length e

    empty : (xs : List (List ℕ)) → length xs ≡ 0 → xs ≡ []
    empty [] e = refl
    empty (x ∷ xs) e = absurd (omega (arith, e))

    by_fault : IsFaultyMethod new n → ⊥
    by_fault (inl lacks) = sound (inl (λ bodiless. lacks.0 (bodiless_after m n flags_same bodiless), λ one. lacks.1 (count ∙ one)))
    by_fault (inr (inl needless)) =
        sound (inr (inl (bodiless_before m n flags_same needless.0, λ none. needless.1 (empty (codes_of new n) (count ∙ none_left (codes_of pool m) none)))))
    by_fault (inr (inr (body, has, faulty))) =
        let s = stands (filter (is_named pool (codes "Code")) m.attributes) n.attributes body each (subst (λ (bodies : List (List ℕ)). Contains bodies body) bodies_are has) in
        body_good s.left s.right body s.stand s.is sound faulty

-- No method of a rewritten file is faulty.
pub file_good : (program : Program) (c d : ClassFile) → ((i : ℕ) (k : Constant) → constant_at c.pool i ≡ Some k → IsLinked c.pool k) → (HasFaultyMethod c → ⊥) → IsRewrittenFile program c d → HasFaultyMethod d → ⊥
file_good program c d links sound r fault = go c.methods r.methods r.each (λ m has. has) moved where
  moved : (n : MemberInfo) × Contains r.methods n × IsFaultyMethod (rewritten_pool c.pool (desc_indexes c)) n
  moved = subst (λ (y : ClassFile). HasFaultyMethod y) r.is fault

  go : (ms ns : List MemberInfo) → AreSideBySide (IsRewrittenMethod program c.pool (desc_indexes c)) ms ns → ((m : MemberInfo) → Contains ms m → Contains c.methods m)
      → ((n : MemberInfo) × Contains ns n × IsFaultyMethod (rewritten_pool c.pool (desc_indexes c)) n) → ⊥
  go ms [] each within (n, (k, less, is), faulty) = absurd (omega (arith, less))
  go [] (y ∷ ns) each within fault = absurd each
  go (m ∷ ms) (y ∷ ns) each within (n, (zero, less, is), faulty) =
      method_good program c.pool (desc_indexes c) links m n (λ bad. sound (m, within m (0, omega arith, refl), bad))
      (subst (λ (z : MemberInfo). IsRewrittenMethod program c.pool (desc_indexes c) m z) is each.0) faulty
  go (m ∷ ms) (y ∷ ns) each within (n, (suc k, less, is), faulty) =
      go ms ns each.1 (λ other (j, lt, at). within other (suc j, omega (arith, lt), at)) (n, (k, omega (arith, less), is), faulty)
