-- The lines of a source's methods among its sections, and what instructions need of the pool.
use Rattle.std.proofs.Common.{◌≡◌, ℕ, zero, suc, ◌+◌, ◌-◌, ◌<◌, ◌⊎◌, inl, inr, Bool, false, ◌&&◌, ℤ, List, [], ◌∷◌, ◌++◌, length, map, take, drop, Option, Some, None, nat_le, Contains, refl, sym, ap, ◌∙◌, subst, arith, append_assoc}
use Rattle.std.specs.Prelude.{slice_get}
use Rattle.std.specs.List.{flat_map, AllByRecursion, enumerate_from, count_by}
use Rattle.std.proofs.lemmas.Bool.{cases_lt, or_from}
use Rattle.std.proofs.lemmas.List.{length-append}
use Rattle.std.proofs.lemmas.List.Concat.{flat_map-append}
use Rattle.std.proofs.lemmas.List.Elements.{Contains-append_left, Contains-append_right}
use Rattle.dj_asm_source.specs.trusted.Lines.{Label, Line, Operation, Class, Super, Implements, Does}
use Rattle.dj_asm_source.specs.trusted.Sources.{Source, FieldSource, MethodSource, version_lines, field_line, head_lines, method_lines, lines_of}
use Rattle.dj_asm_source.specs.trusted.Labels.{AreMethodLines, is_instruction, instruction_count, label_number}
use Rattle.dj_asm_source.specs.LabelReading.{sections_of}
use Rattle.dj_asm_source.proofs.Sections.{source_sections}
use Rattle.dj_asm_pool.specs.trusted.Entries as entries
use Rattle.dj_asm_pool.specs.trusted.Entries.{Entry, with_parts}
use Rattle.dj_asm_pool.specs.trusted.Needs.{Need, needs_at, needs, method_needs, methods_needs, needs_of, head_entries, instruction_entries, catch_entries, stack_map_entries, frame_entries, operation_entries}
use Rattle.dj_asm_pool.proofs.Members.{in_map, in_flat_map, each_append}
use Rattle.dj_asm.specs.trusted.Large.{IsMethodLine, most_lines, is_catch}
use Rattle.dj_asm.specs.declared.counted.Kind.TheVariants as kinds
use Rattle.dj_asm.specs.Judging.{is_past, is_one_past, is_wide_line, wide_code, is_large_in, in_sections, starts_at, end_at, operations}
use Rattle.dj_asm.proofs.JudgedSections.{in_this, in_later}

-- ---- lists

module _ {X : Type 0} where
  nth_left : (xs ys : List X) (k : ℕ) → k < length xs → slice_get (xs ++ ys) k ≡ slice_get xs k
  nth_left [] ys k lt = absurd (omega (arith, lt))
  nth_left (x ∷ xs) ys zero lt = refl
  nth_left (x ∷ xs) ys (suc k) lt = nth_left xs ys k (omega (arith, lt))

  nth_right : (xs ys : List X) (k : ℕ) → slice_get (xs ++ ys) (length xs + k) ≡ slice_get ys k
  nth_right [] ys k = let z : 0 + k ≡ k = omega arith in ap (slice_get ys) z
  nth_right (x ∷ xs) ys k = let e : suc (length xs) + k ≡ suc (length xs + k) = omega arith in ap (slice_get (x ∷ xs ++ ys)) e ∙ nth_right xs ys k

  pub nth_cut : (xs : List X) (k : ℕ) (x : X) → slice_get xs k ≡ Some x → (xs ≡ take k xs ++ x ∷ drop (suc k) xs) × (length (take k xs) ≡ k)
  nth_cut [] k x e = absurd cc
  nth_cut (y ∷ xs) zero x e = let same : y ≡ x = cc in (ap (λ z. z ∷ xs) same, refl)
  nth_cut (y ∷ xs) (suc k) x e = let r = nth_cut xs k x e in let size = r.1 in (ap (λ l. y ∷ l) r.0, omega (arith, size))

  pub nth_seam : (xs : List X) (x : X) (ys : List X) → slice_get (xs ++ x ∷ ys) (length xs) ≡ Some x
  nth_seam [] x ys = refl
  nth_seam (y ∷ xs) x ys = nth_seam xs x ys

  pub take_seam : (xs ys : List X) → take (length xs) (xs ++ ys) ≡ xs
  take_seam [] ys = refl
  take_seam (x ∷ xs) ys = ap (λ l. x ∷ l) (take_seam xs ys)

  pub each_at : (P : X → Type 0) (xs : List X) (k : ℕ) (x : X) → AllByRecursion P xs → slice_get xs k ≡ Some x → P x
  each_at P [] k x all e = absurd cc
  each_at P (y ∷ xs) zero x all e = let same : y ≡ x = cc in subst P same all.0
  each_at P (y ∷ xs) (suc k) x all e = each_at P xs k x all.1 e

-- ---- the lines of a method

more_lines : (m : MethodSource) (prefix : List MethodSource) → length (flat_map method_lines (m ∷ prefix)) ≡ length (method_lines m) + length (flat_map method_lines prefix)
more_lines m prefix = length-append (method_lines m) (flat_map method_lines prefix)

at_section : (prefix : List MethodSource) (method : MethodSource) (rest : List MethodSource) (q : ℕ) → q < length (method_lines method)
    → in_sections (map method_lines (prefix ++ method ∷ rest)) (length (flat_map method_lines prefix) + q) ≡ is_large_in (method_lines method) q
at_section [] method rest q lt =
    let z : 0 + q ≡ q = omega arith in
    ap (in_sections (method_lines method ∷ map method_lines rest)) z ∙ in_this (method_lines method) (map method_lines rest) q lt
at_section (m ∷ prefix) method rest q lt =
    let size = more_lines m prefix in
    let shift : length (flat_map method_lines (m ∷ prefix)) + q ≡ length (method_lines m) + (length (flat_map method_lines prefix) + q) = omega (arith, size) in
    ap (in_sections (method_lines m ∷ map method_lines (prefix ++ method ∷ rest))) shift
    ∙ (in_later (method_lines m) (map method_lines (prefix ++ method ∷ rest)) (length (flat_map method_lines prefix) + q) ∙ at_section prefix method rest q lt)

at_line : (prefix : List MethodSource) (method : MethodSource) (rest : List MethodSource) (q : ℕ) → q < length (method_lines method)
    → slice_get (flat_map method_lines (prefix ++ method ∷ rest)) (length (flat_map method_lines prefix) + q) ≡ slice_get (method_lines method) q
at_line [] method rest q lt =
    let z : 0 + q ≡ q = omega arith in
    ap (slice_get (method_lines method ++ flat_map method_lines rest)) z ∙ nth_left (method_lines method) (flat_map method_lines rest) q lt
at_line (m ∷ prefix) method rest q lt =
    let size = more_lines m prefix in
    let shift : length (flat_map method_lines (m ∷ prefix)) + q ≡ length (method_lines m) + (length (flat_map method_lines prefix) + q) = omega (arith, size) in
    ap (slice_get (method_lines m ++ flat_map method_lines (prefix ++ method ∷ rest))) shift
    ∙ (nth_right (method_lines m) (flat_map method_lines (prefix ++ method ∷ rest)) (length (flat_map method_lines prefix) + q) ∙ at_line prefix method rest q lt)

module _ (s : Source) (before : ℕ) (body : List Line) (m : AreMethodLines s before body) (q : ℕ) (lt : q < length body) where
  within : q < length (method_lines m.method)
  within = subst (λ (l : List Line). q < length l) m.lines_are lt

  place_is : before + q ≡ length (head_lines s) + (length (flat_map method_lines m.prefix) + q)
  place_is = let e = m.before_is in omega (arith, e)

  pub section_same : in_sections (sections_of (lines_of s)) (before + q) ≡ is_large_in body q
  section_same =
      ap (in_sections (sections_of (lines_of s))) place_is
      ∙ (ap (λ ss. in_sections ss (length (head_lines s) + (length (flat_map method_lines m.prefix) + q))) (source_sections s)
      ∙ (in_later (head_lines s) (map method_lines s.methods) (length (flat_map method_lines m.prefix) + q)
      ∙ (ap (λ ms. in_sections (map method_lines ms) (length (flat_map method_lines m.prefix) + q)) m.methods
      ∙ (at_section m.prefix m.method m.rest q within ∙ ap (λ l. is_large_in l q) (sym m.lines_are)))))

  pub line_same : slice_get (lines_of s) (before + q) ≡ slice_get body q
  line_same =
      ap (slice_get (lines_of s)) place_is
      ∙ (nth_right (head_lines s) (flat_map method_lines s.methods) (length (flat_map method_lines m.prefix) + q)
      ∙ (ap (λ ms. slice_get (flat_map method_lines ms) (length (flat_map method_lines m.prefix) + q)) m.methods
      ∙ (at_line m.prefix m.method m.rest q within ∙ ap (λ l. slice_get l q) (sym m.lines_are))))

-- ---- each line stands before the methods or in one

pub record IsIn (s : Source) (place : ℕ) : Type 0 where
  pub before : ℕ
  pub body : List Line
  pub in_method : AreMethodLines s before body
  pub number : ℕ
  pub within : number < length body
  pub place_is : place ≡ before + number

find : (s : Source) (prefix methods : List MethodSource) → s.methods ≡ prefix ++ methods → (p : ℕ) → p < length (flat_map method_lines methods)
    → IsIn s (length (head_lines s) + length (flat_map method_lines prefix) + p)
find s prefix [] e p lt = absurd (omega (arith, lt))
find s prefix (m ∷ methods) e p lt = elim (cases_lt p (length (method_lines m))) [
  | inl here ↦ record {
    before = length (head_lines s) + length (flat_map method_lines prefix);
    body = method_lines m;
    in_method = record { prefix = prefix; method = m; rest = methods; methods = e; before_is = refl; lines_are = refl };
    number = p;
    within = here;
    place_is = refl;
  }
  | inr ge ↦
      let size = more_lines m methods in
      let more = ap length (flat_map-append method_lines prefix (m ∷ [])) ∙ length-append (flat_map method_lines prefix) (flat_map method_lines (m ∷ [])) in
      let one = more_lines m [] in
      let found = find s (prefix ++ m ∷ []) methods (e ∙ sym (append_assoc prefix (m ∷ []) methods)) (p - length (method_lines m)) (omega (arith, lt, ge, size)) in
      let shift : length (head_lines s) + length (flat_map method_lines (prefix ++ m ∷ [])) + (p - length (method_lines m)) ≡ length (head_lines s) + length (flat_map method_lines prefix) + p =
      omega (arith, ge, more, one) in
      subst (IsIn s) shift found
]

pub where_is : (s : Source) (place : ℕ) → place < length (lines_of s) → (place < length (head_lines s)) ⊎ IsIn s place
where_is s place lt = elim (cases_lt place (length (head_lines s))) [
  | inl head ↦ inl head
  | inr ge ↦
      let size = length-append (head_lines s) (flat_map method_lines s.methods) in
      let shift : length (head_lines s) + 0 + (place - length (head_lines s)) ≡ place = omega (arith, ge) in
      inr (subst (IsIn s) shift (find s [] s.methods refl (place - length (head_lines s)) (omega (arith, lt, ge, size))))
]

-- ---- the lines before the methods

-- no section finds them large, and they aren't instructions
abbrev IsQuiet : Line → Type 0
IsQuiet line = (is_catch line ≡ false) × ((number : Label → ℕ) (starts : List ℕ) (stop count : ℕ) → is_wide_line number starts stop count (Some line) ≡ false) × (is_instruction line ≡ false)

quiet_names : (names : List (List ℕ)) → AllByRecursion IsQuiet (map Implements names)
quiet_names [] = tt
quiet_names (name ∷ names) = ((refl, λ number starts stop count. refl, refl), quiet_names names)

quiet_fields : (fields : List FieldSource) → AllByRecursion IsQuiet (map field_line fields)
quiet_fields [] = tt
quiet_fields (field ∷ fields) = ((refl, λ number starts stop count. refl, refl), quiet_fields fields)

quiet_version : (version : Option (ℤ × ℤ)) → AllByRecursion IsQuiet (version_lines version)
quiet_version None = tt
quiet_version (Some (major, minor)) = ((refl, λ number starts stop count. refl, refl), tt)

quiet_head : (s : Source) → AllByRecursion IsQuiet (head_lines s)
quiet_head s =
    each_append IsQuiet ((Class s.flags s.name ∷ version_lines s.version) ++ (Super s.super ∷ map Implements s.interfaces)) (map field_line s.fields)
    (each_append IsQuiet (Class s.flags s.name ∷ version_lines s.version) (Super s.super ∷ map Implements s.interfaces)
    ((refl, λ number starts stop count. refl, refl), quiet_version s.version) ((refl, λ number starts stop count. refl, refl), quiet_names s.interfaces))
    (quiet_fields s.fields)

module _ (lines : List Line) (place : ℕ) where
  abbrev such_before : ℕ
  such_before = count_by is_catch (take place lines)

  abbrev wide_test : Option Line → Bool
  wide_test = is_wide_line (label_number lines) (starts_at 0 (operations lines)) (end_at 0 (operations lines)) (instruction_count (take place lines))

  quiet_by : AllByRecursion IsQuiet lines → (o : Option Line) → slice_get lines place ≡ o → is_large_in lines place ≡ false
  quiet_by quiet None e = or_from (is_past kinds.Catch lines place) (wide_code lines place) (ap (is_one_past kinds.Catch such_before) e) (ap wide_test e)
  quiet_by quiet (Some line) e =
      let q = each_at IsQuiet lines place line quiet e in
      or_from (is_past kinds.Catch lines place) (wide_code lines place)
      (ap (is_one_past kinds.Catch such_before) e ∙ ap (λ b. b && nat_le most_lines such_before) q.0)
      (ap wide_test e ∙ q.1 (label_number lines) (starts_at 0 (operations lines)) (end_at 0 (operations lines)) (instruction_count (take place lines)))

  quiet_at : AllByRecursion IsQuiet lines → is_large_in lines place ≡ false
  quiet_at quiet = quiet_by quiet (slice_get lines place) refl

pub quiet_before : (s : Source) (place : ℕ) → place < length (head_lines s) → in_sections (sections_of (lines_of s)) place ≡ false
quiet_before s place lt =
    ap (λ ss. in_sections ss place) (source_sections s) ∙ (in_this (head_lines s) (map method_lines s.methods) place lt ∙ quiet_at (head_lines s) place (quiet_head s))

pub does_in : (s : Source) (place : ℕ) (o : Operation) → place < length (head_lines s) → slice_get (lines_of s) place ≡ Some (Does o) → ⊥
does_in s place o lt e = not_quiet ((each_at IsQuiet (head_lines s) place (Does o) (quiet_head s) (sym (nth_left (head_lines s) (flat_map method_lines s.methods) place lt) ∙ e))) where
  not_quiet : IsQuiet (Does o) → ⊥
  not_quiet q = let e = q.2 in absurd cc

-- ---- what instructions need

abbrev pub need : ℕ → Entry → Need
need place entry = record { place = place; entry = entry }

part_itself : (e : Entry) → Contains (with_parts e) e
part_itself (entries.Utf8 text) = (0, omega arith, refl)
part_itself (entries.Integer n) = (0, omega arith, refl)
part_itself (entries.Long n) = (0, omega arith, refl)
part_itself (entries.Class name) = (1, omega arith, refl)
part_itself (entries.Text text) = (1, omega arith, refl)
part_itself (entries.NameAndType name desc) = (2, omega arith, refl)
part_itself (entries.Field class name desc) = (5, omega arith, refl)
part_itself (entries.Method class name desc) = (5, omega arith, refl)
part_itself (entries.InterfaceMethod class name desc) = (5, omega arith, refl)
part_itself (entries.Dynamic place name desc) = (3, omega arith, refl)

need_first : (place : ℕ) (es : List Entry) (e : Entry) → Contains es e → Contains (needs_at place es) (need place e)
need_first place es e h = in_map (need place) (flat_map with_parts es) e (in_flat_map with_parts es e e h (part_itself e))

line_need : (of : Line → List Entry) (start : ℕ) (prefix : List Line) (line : Line) (rest : List Line) (e : Entry) → Contains (of line) e
    → Contains (needs of (enumerate_from start (prefix ++ line ∷ rest))) (need (start + length prefix) e)
line_need of start [] line rest e h =
    let z : start ≡ start + 0 = omega arith in
    subst (λ (n : ℕ). Contains (needs of (enumerate_from start (line ∷ rest))) (need n e)) z
    (Contains-append_left (needs_at start (of line)) (needs of (enumerate_from (start + 1) rest)) (need start e) (need_first start (of line) e h))
line_need of start (x ∷ prefix) line rest e h =
    let z : start + 1 + length prefix ≡ start + suc (length prefix) = omega arith in
    Contains-append_right (needs_at start (of x)) (needs of (enumerate_from (start + 1) (prefix ++ line ∷ rest))) (need (start + suc (length prefix)) e)
    (subst (λ (n : ℕ). Contains (needs of (enumerate_from (start + 1) (prefix ++ line ∷ rest))) (need n e)) z (line_need of (start + 1) prefix line rest e h))

in_method_needs : (placed : List (ℕ × Line)) (n : Need) → Contains (needs instruction_entries placed) n → Contains (method_needs placed) n
in_method_needs placed n h =
    let a = needs head_entries placed in
    let b = needs instruction_entries placed in
    let c = needs catch_entries placed in
    let d = needs stack_map_entries placed in
    Contains-append_left (a ++ b ++ c ++ d) (needs frame_entries placed) n
    (Contains-append_left (a ++ b ++ c) d n (Contains-append_left (a ++ b) c n (Contains-append_right a b n h)))

method_need : (start : ℕ) (prefix : List MethodSource) (method : MethodSource) (rest : List MethodSource) (n : Need)
    → Contains (method_needs (enumerate_from (start + length (flat_map method_lines prefix)) (method_lines method))) n → Contains (methods_needs start (prefix ++ method ∷ rest)) n
unfolding methods_needs
method_need start [] method rest n h =
    let z : start + 0 ≡ start = omega arith in
    Contains-append_left (method_needs (enumerate_from start (method_lines method))) (methods_needs (start + length (method_lines method)) rest) n
    (subst (λ (k : ℕ). Contains (method_needs (enumerate_from k (method_lines method))) n) z h)
method_need start (m ∷ prefix) method rest n h =
    let size = more_lines m prefix in
    let z : start + length (flat_map method_lines (m ∷ prefix)) ≡ start + length (method_lines m) + length (flat_map method_lines prefix) = omega (arith, size) in
    Contains-append_right (method_needs (enumerate_from start (method_lines m))) (methods_needs (start + length (method_lines m)) (prefix ++ method ∷ rest)) n
    (method_need (start + length (method_lines m)) prefix method rest n (subst (λ (k : ℕ). Contains (method_needs (enumerate_from k (method_lines method))) n) z h))

-- an instruction's entries are needed at its line
pub needed_at : (s : Source) (place : ℕ) (body prefix : List Line) (o : Operation) (e : Entry) → IsMethodLine s place body prefix (Does o) → Contains (operation_entries o) e → Contains (needs_of s) (need place e)
needed_at s place body prefix o e at h =
    let m = at.in_method in
    let b = at.before in
    let here : Contains (needs instruction_entries (enumerate_from b body)) (need (b + length prefix) e) =
    subst (λ (l : List Line). Contains (needs instruction_entries (enumerate_from b l)) (need (b + length prefix) e)) (sym at.parts) (line_need instruction_entries b prefix (Does o) at.rest e h) in
    let there : Contains (needs instruction_entries (enumerate_from (length (head_lines s) + length (flat_map method_lines m.prefix)) (method_lines m.method))) (need place e) =
    subst (λ (n : ℕ). Contains (needs instruction_entries (enumerate_from (length (head_lines s) + length (flat_map method_lines m.prefix)) (method_lines m.method))) (need n e)) (sym at.place_is)
    (subst (λ (n : ℕ). Contains (needs instruction_entries (enumerate_from n (method_lines m.method))) (need (b + length prefix) e)) m.before_is
    (subst (λ (l : List Line). Contains (needs instruction_entries (enumerate_from b l)) (need (b + length prefix) e)) m.lines_are here)) in
    Contains-append_right (needs head_entries (enumerate_from 0 (head_lines s))) (methods_needs (length (head_lines s)) s.methods) (need place e)
    (subst (λ (ms : List MethodSource). Contains (methods_needs (length (head_lines s)) ms) (need place e)) (sym m.methods)
    (method_need (length (head_lines s)) m.prefix m.method m.rest (need place e)
    (in_method_needs (enumerate_from (length (head_lines s) + length (flat_map method_lines m.prefix)) (method_lines m.method)) (need place e) there)))
