-- What is known of a method that has code, so that its Code attribute can be rewritten.
use Rattle.std.proofs.Common.{◌≡◌, ℕ, zero, suc, ◌+◌, ◌<◌, ◌≤◌, ◌^◌, Bool, true, false, List, [], ◌∷◌, map, filter, length, Option, Some, None, refl, sym, ap, subst, ◌∙◌, arith, inr, codes, if◌then◌else◌}
use Rattle.std.specs.Prelude.{Contains}
use Rattle.std.specs.List.{AllByRecursion}
use Rattle.dj_ops.specs.declared.frames.Frame.{Frame}
use Rattle.dj_labels.specs.trusted.Labels.{IsCut, first_of, addressed}
use Rattle.dj_labels.proofs.Cuts.{starts_rise, starts_within, few_starts}
use Rattle.dj_labels.proofs.Proper.{well_formed}
use Rattle.dj_frames.specs.trusted.Written.{stack_map_bytes}
use Rattle.dj_frames.specs.StackMaps.{AreWellFormed}
use Rattle.dj_frames.specs.Moves.{moved_frame}
use Rattle.dj_frames.specs.Laws.{StackMapIsWellFormed}
use Rattle.dj_pool.specs.trusted.Pool.{Constant, IsPool}
use Rattle.dj_class.specs.trusted.ClassFile.{AttributeInfo, MemberInfo}
use Rattle.dj_class.specs.trusted.Code.{CodeInfo, IsCode, IsRow}
use Rattle.dj_class.proofs.CodeLaws.{one_code}
use Rattle.dj_early_rules.specs.trusted.Attributes.{is_named, codes_of, maps_of}
use Rattle.dj_early_rules.specs.trusted.Code.{HasFrames}
use Rattle.dj_model.specs.trusted.Program.{Program}
use Rattle.dj_groups.specs.Groups.{starts, owns}
use Rattle.dj_program.specs.trusted.Codes.{CodeParts, code_in, IsMethodCode}
use Rattle.dj_program.proofs.Once.{one_code_parts}
use Rattle.dj_rewritten.specs.Files.{frames_in, IsRewrittenCode}
use Rattle.dj_rewritten.specs.TooLarge.{DoesNotFit}
use Rattle.dj_rewritten.proofs.Bodies.{bodies_filtered}
use Rattle.dj_rewritten.proofs.Methods.{rises_each, short_each, old_count, frames_formed}
use Rattle.dj_rewrite_code.specs.Answers.{groups_by, CanRewrite, IsWritten, IsKnownMethod, HasRewrittenBody, HasLargeCode}
use Rattle.dj_rewrite_code.proofs.MapSizes.{map_short, no_map_short}
use Rattle.dj_rewrite_code.proofs.Rows.{length_map, catches_read}
use Rattle.dj_rewrite_code.proofs.Sizes.{map_within}

-- ---- the one attribute

-- the attribute of the name, where there is one body
pub record IsOneAttribute (attributes : List AttributeInfo) (body : List ℕ) : Type 0 where
  pub attribute : AttributeInfo
  pub one : attributes ≡ attribute ∷ []
  pub has : attribute.body ≡ body

one_of : (attributes : List AttributeInfo) (body : List ℕ) → map (λ (a : AttributeInfo). a.body) attributes ≡ body ∷ [] → IsOneAttribute attributes body
one_of [] body e = absurd cc
one_of (a ∷ []) body e = record { attribute = a; one = refl; has = (let f : a.body ∷ [] ≡ body ∷ [] = e in cc) }
one_of (a ∷ b ∷ list) body e = (let f : a.body ∷ (b.body ∷ map (λ (x : AttributeInfo). x.body) list) ≡ body ∷ [] = e in absurd cc)

pub one_attribute : (pool : List Constant) (m : MemberInfo) (body : List ℕ) → codes_of pool m ≡ body ∷ [] → IsOneAttribute (filter (is_named pool (codes "Code")) m.attributes) body
one_attribute pool m body one = one_of (filter (is_named pool (codes "Code")) m.attributes) body (sym (bodies_filtered pool (codes "Code") m.attributes) ∙ one)

pub none_left : (pool : List Constant) (m : MemberInfo) → codes_of pool m ≡ [] → filter (is_named pool (codes "Code")) m.attributes ≡ []
none_left pool m none = empty (filter (is_named pool (codes "Code")) m.attributes) (sym (bodies_filtered pool (codes "Code") m.attributes) ∙ none) where
  empty : (list : List AttributeInfo) → map (λ (a : AttributeInfo). a.body) list ≡ [] → list ≡ []
  empty [] e = refl
  empty (a ∷ list) e = absurd cc

-- a filtered list's elements are the list's
pub filtered : (P : AttributeInfo → Type 0) (p : AttributeInfo → Bool) (list : List AttributeInfo) (a : AttributeInfo) → AllByRecursion P list → Contains (filter p list) a → P a
filtered P p [] a h (k, lt, is) = absurd (omega (arith, lt))
filtered P p (x ∷ list) a h there = go (p x) (filtered P p list a h.1) there where
  go : (b : Bool) → (Contains (filter p list) a → P a) → Contains (if b then x ∷ filter p list else filter p list) a → P a
  go false later there = later there
  go true later (zero, lt, is) = let e : x ≡ a = is in subst P e h.0
  go true later (suc k, lt, is) = later (k, omega (arith, lt), is)

-- its body is short
pub short_body : (pool : List Constant) (m : MemberInfo) (body : List ℕ) → AllByRecursion (λ (a : AttributeInfo). length a.body < 2 ^ 28) m.attributes
    → (one : IsOneAttribute (filter (is_named pool (codes "Code")) m.attributes) body) → length body < 2 ^ 28
short_body pool m body short one =
    subst (λ (b : List ℕ). length b < 2 ^ 28) one.has
    (filtered (λ (a : AttributeInfo). length a.body < 2 ^ 28) (is_named pool (codes "Code")) m.attributes one.attribute short
    (subst (λ (list : List AttributeInfo). Contains list one.attribute) (sym one.one) (0, omega arith, refl)))

-- ---- its code

two_or_fewer : (n : ℕ) → (2 ≤ n → ⊥) → n ≤ 1
two_or_fewer zero h = omega arith
two_or_fewer (suc zero) h = omega arith
two_or_fewer (suc (suc n)) h = absurd (h (omega arith))

module _ (formed : StackMapIsWellFormed) (program : Program) (pool : List Constant) (first : ℕ) (m : MemberInfo) (parts : CodeParts) (body : List ℕ) (info : CodeInfo)
    (first_fits : first + 25 < 2 ^ 16) (valid : IsPool pool) (known : IsKnownMethod program pool m) (code : IsMethodCode pool m parts)
    (one : codes_of pool m ≡ body ∷ []) (is : IsCode body info) where
  -- the view is that of the method's code
  pub same_info : code.info ≡ info
  same_info =
      let there : Contains (body ∷ []) code.own.body = subst (λ (bodies : List (List ℕ)). Contains bodies code.own.body) one code.own.own in
      one_code body code.info info (subst (λ (b : List ℕ). IsCode b code.info) (alone there) code.own.is) is where
        alone : Contains (body ∷ []) code.own.body → code.own.body ≡ body
        alone (zero, lt, e) = sym e
        alone (suc k, lt, e) = absurd (omega (arith, lt))

  abbrev old : List ℕ
  old = code.labels.starts

  code_valid : IsCode body code.info
  code_valid = subst (λ (i : CodeInfo). IsCode body i) (sym same_info) is

  few_code : length code.info.code ≤ 65535
  few_code = let h = code_valid.valid.few_code in omega (arith, h)

  count : length old ≡ length parts.labelled.code
  count = old_count formed pool m parts code few_code

  cut : IsCut code.info.code old (addressed old parts.labelled.code) (length code.info.code)
  cut = code.labels.cut

  some_code : 0 < length parts.labelled.code
  some_code = let n = go old cut.first in omega (arith, n, count) where
    go : (xs : List ℕ) → first_of xs (length code.info.code) ≡ 0 → 0 < length xs
    go [] e = (let h = code_valid.valid.some_code in omega (arith, e, h))
    go (x ∷ xs) e = omega arith

  no_frames : AreWellFormed old []
  no_frames = record {
    starts_rise = rises_each old (starts_rise code.info.code old (addressed old parts.labelled.code) (length code.info.code) cut);
    addresses = short_each old (length code.info.code) few_code (starts_within code.info.code old (addressed old parts.labelled.code) (length code.info.code) cut);
    count = omega arith;
    frames_rise = λ i j d before within. absurd (omega (arith, within));
    each = λ i d within. absurd (omega (arith, within));
  }

  frames_fit : (o : Option (List Frame)) → parts.frames ≡ o → AreWellFormed old (frames_in o)
  frames_fit None e = no_frames
  frames_fit (Some frames) e = frames_formed formed pool m parts code few_code frames e

  few_maps : length (filter (is_named pool (codes "StackMapTable")) code.info.attributes) ≤ 1
  few_maps =
      let same = ap length (bodies_filtered pool (codes "StackMapTable") code.info.attributes) ∙ length_map (λ (a : AttributeInfo). a.body) (filter (is_named pool (codes "StackMapTable")) code.info.attributes) in
      let few = two_or_fewer (length (maps_of pool code.info)) (λ two. known.whole (inr (inr (code.own.body, code.own.own, inr (code.info, code.own.is, inr two))))) in
      omega (arith, same, few)

  -- the stack map is short
  map_there : (b : List ℕ) (bs : List (List ℕ)) → maps_of pool code.info ≡ b ∷ bs → length b ≤ length body
  map_there b bs e = first_map (filter (is_named pool (codes "StackMapTable")) code.info.attributes) (λ a there. there_too a there) (sym (bodies_filtered pool (codes "StackMapTable") code.info.attributes) ∙ e) where
    there_too : (a : AttributeInfo) → Contains (filter (is_named pool (codes "StackMapTable")) code.info.attributes) a → length a.body ≤ length body
    there_too a there =
        let own = from_filter (is_named pool (codes "StackMapTable")) code.info.attributes a there in
        let long = ap length code_valid.spelled in
        omega (arith, long, map_within code.info a own) where
          from_filter : (p : AttributeInfo → Bool) (list : List AttributeInfo) (a : AttributeInfo) → Contains (filter p list) a → Contains list a
          from_filter p [] a (k, lt, is) = absurd (omega (arith, lt))
          from_filter p (x ∷ list) a there = go (p x) (from_filter p list a) there where
            go : (b : Bool) → (Contains (filter p list) a → Contains list a) → Contains (if b then x ∷ filter p list else filter p list) a → Contains (x ∷ list) a
            go false later there = let t = later there in (suc t.0, omega (arith, t.1), t.2)
            go true later (zero, lt, is) = (0, omega arith, is)
            go true later (suc k, lt, is) = let t = later (k, omega (arith, lt), is) in (suc t.0, omega (arith, t.1), t.2)

    first_map : (list : List AttributeInfo) → ((a : AttributeInfo) → Contains list a → length a.body ≤ length body) → map (λ (a : AttributeInfo). a.body) list ≡ b ∷ bs → length b ≤ length body
    first_map [] h f = absurd cc
    first_map (a ∷ list) h f = (let same : a.body ≡ b = cc in let g = ap length same in omega (arith, g, h a (0, omega arith, refl)))

  moved_short : length body < 2 ^ 28 → (new start own : List ℕ) → length (stack_map_bytes new (map (moved_frame start own) (frames_in parts.frames))) < 2 ^ 30
  moved_short short new start own = go (maps_of pool code.info) refl parts.frames code.frames where
    none : length (stack_map_bytes new (map (moved_frame start own) [])) < 2 ^ 30
    none = omega (arith, no_map_short new start own)

    go : (maps : List (List ℕ)) → maps_of pool code.info ≡ maps → (o : Option (List Frame)) → HasFrames code.info.code maps o → length (stack_map_bytes new (map (moved_frame start own) (frames_in o))) < 2 ^ 30
    go maps e None has = none
    go [] e (Some frames) has = (let f : frames ≡ [] = cc in subst (λ (fs : List Frame). length (stack_map_bytes new (map (moved_frame start own) fs)) < 2 ^ 30) (sym f) none)
    go (b ∷ bs) e (Some frames) has = omega (arith, short, map_there b bs e, map_short has.starts new start own b frames has.are)

  pub can_rewrite : length body < 2 ^ 28 → CanRewrite program pool first info parts
  unfolding code_in
  can_rewrite short =
      subst (λ (i : CodeInfo). CanRewrite program pool first i parts) same_info (record {
        first_fits = first_fits;
        code = record {
          valid = valid;
          well = well_formed code.info.code code.info.table parts.labelled code.labels;
          few = (let h = few_starts code.info.code old (addressed old parts.labelled.code) (length code.info.code) cut in omega (arith, h, count, few_code));
          news = known.news parts code;
        };
        info_valid = code_valid.valid;
        stack = code.stack;
        some = some_code;
        catches = catches_read _ parts.labelled.ranges (subst (AllByRecursion IsRow) code.labels.rows code_valid.valid.rows);
        old = old;
        old_count = count;
        frames = frames_fit parts.frames refl;
        one_map = few_maps;
        short = λ new. moved_short short new (starts (groups_by program pool parts)) (owns (groups_by program pool parts));
      })

  -- the answers
  pub body_rewritten : (attribute : AttributeInfo) (bytes : List ℕ) → filter (is_named pool (codes "Code")) m.attributes ≡ attribute ∷ []
      → IsWritten program pool first info parts bytes → HasRewrittenBody program pool first m (record { name = attribute.name; body = bytes })
  body_rewritten attribute bytes alone w = record {
    attribute = attribute;
    one = alone;
    body = record {
      parts = parts;
      code = code;
      new = w.new;
      rewritten = subst (λ (i : CodeInfo). IsRewrittenCode program pool first i parts w.new) (sym same_info) w.rewritten;
      is = ap (λ (b : List ℕ). record { name = attribute.name; body = b }) w.is;
    };
    fits = λ other own such. w.fits (subst (λ (p : CodeParts). DoesNotFit first (groups_by program pool p) p) (one_code_parts pool m other parts known.whole own code) such);
    small = w.small;
  }

  pub code_large : DoesNotFit first (groups_by program pool parts) parts → HasLargeCode program pool first m
  code_large such = record { parts = parts; code = code; such = such }
