-- Where no line is one too many, what a class file counts has at most 65,535 items.
use Rattle.std.proofs.Common.{◌≡◌, ℕ, ◌+◌, ◌≤◌, inl, inr, Bool, true, false, cond, List, [], ◌∷◌, ◌++◌, length, map, take, Some, refl, sym, ap, ◌∙◌, subst, arith, append_assoc}
use Rattle.std.specs.Prelude.{slice_get}
use Rattle.std.specs.List.{flat_map, count_by}
use Rattle.std.proofs.lemmas.Bool.{cases_Bool, cases_lt}
use Rattle.std.proofs.lemmas.List.{take_at}
use Rattle.std.proofs.lemmas.List.Sums.{sum_by-cons, sum_by-append}
use Rattle.dj_asm_source.specs.trusted.Lines.{Line, Class, Super, Implements, Abstract, Method, Stack, Locals, Beside, Catch, End}
use Rattle.dj_asm_source.specs.trusted.Sources.{Source, MethodSource, Bodiless, Coded, version_lines, field_line, body_lines, head_lines, method_lines, lines_of}
use Rattle.dj_asm.specs.trusted.Codes.{Places, ranges_in}
use Rattle.dj_asm.specs.trusted.Large.{most_lines, is_interface, is_field, is_method, is_catch, IsOneTooMany, count_before, IsPastTable}
use Rattle.dj_asm_pool.specs.trusted.Room.{NoLine}

module _ (is_such : Line → Bool) where
  count_first : (line : Line) (more : List Line) → count_by is_such (line ∷ more) ≡ cond (is_such line) 1 0 + count_by is_such more
  count_first line more = sum_by-cons (λ l. cond (is_such l) 1 0) line more

  pub count_both : (xs ys : List Line) → count_by is_such (xs ++ ys) ≡ count_by is_such xs + count_by is_such ys
  count_both xs ys = sum_by-append (λ l. cond (is_such l) 1 0) xs ys

  count_yes : (line : Line) (more : List Line) → is_such line ≡ true → count_by is_such (line ∷ more) ≡ 1 + count_by is_such more
  count_yes line more e = count_first line more ∙ ap (λ b. cond b 1 0 + count_by is_such more) e

  count_no : (line : Line) (more : List Line) → is_such line ≡ false → count_by is_such (line ∷ more) ≡ count_by is_such more
  count_no line more e = let z : 0 + count_by is_such more ≡ count_by is_such more = omega arith in count_first line more ∙ (ap (λ b. cond b 1 0 + count_by is_such more) e ∙ z)

  count_from : (body prefix rest : List Line) → ((before : List Line) (line : Line) (after : List Line) → body ≡ before ++ line ∷ after → IsOneTooMany is_such (count_by is_such before) line → ⊥)
      → body ≡ prefix ++ rest → count_by is_such prefix ≤ most_lines → count_by is_such prefix + count_by is_such rest ≤ most_lines
  count_from body prefix [] none e le = omega (arith, le)
  count_from body prefix (line ∷ rest) none e le =
      let next : body ≡ (prefix ++ line ∷ []) ++ rest = e ∙ sym (append_assoc prefix (line ∷ []) rest) in
      let sum = count_both prefix (line ∷ []) in
      elim (cases_Bool (is_such line)) [
        | inl such ↦
            let one = count_yes line [] such in
            let whole = count_yes line rest such in
            elim (cases_lt (count_by is_such prefix) most_lines) [
              | inl lt ↦ let r = count_from body (prefix ++ line ∷ []) rest none next (omega (arith, sum, one, lt)) in omega (arith, r, sum, one, whole)
              | inr many ↦ absurd (none prefix line rest e (record { such = such; many = many }))
            ]
        | inr other ↦
            let none' = count_no line [] other in
            let whole = count_no line rest other in
            let r = count_from body (prefix ++ line ∷ []) rest none next (omega (arith, sum, none', le)) in
            omega (arith, r, sum, none', whole)
      ]

  -- no line of the body is one too many
  pub count_fits : (body : List Line) → ((before : List Line) (line : Line) (after : List Line) → body ≡ before ++ line ∷ after → IsOneTooMany is_such (count_by is_such before) line → ⊥) → count_by is_such body ≤ most_lines
  count_fits body none = let r = count_from body [] body none refl (omega arith) in omega (arith, r)

  count_map : {A : Type 0} (f : A → Line) (xs : List A) → ((a : A) → is_such (f a) ≡ true) → count_by is_such (map f xs) ≡ length xs
  count_map f [] all = refl
  count_map f (x ∷ xs) all = let e = count_yes (f x) (map f xs) (all x) in let r = count_map f xs all in omega (arith, e, r)

-- ---- the tables of a class

slice_prefix : (prefix : List Line) (line : Line) (rest : List Line) → slice_get (prefix ++ line ∷ rest) (length prefix) ≡ Some line
slice_prefix [] line rest = refl
slice_prefix (x ∷ prefix) line rest = slice_prefix prefix line rest

table_fits : (s : Source) (is_such : Line → Bool) → NoLine (IsPastTable s)
    → ((place : ℕ) (line : Line) → slice_get (lines_of s) place ≡ Some line → IsOneTooMany is_such (count_before is_such s place) line → IsPastTable s place) → count_by is_such (lines_of s) ≤ most_lines
table_fits s is_such none past =
    count_fits is_such (lines_of s) (λ prefix line rest e many.
    let at : slice_get (lines_of s) (length prefix) ≡ Some line = ap (λ (l : List Line). slice_get l (length prefix)) e ∙ slice_prefix prefix line rest in
    let before : prefix ≡ take (length prefix) (lines_of s) = sym (ap (take (length prefix)) e ∙ take_at prefix (line ∷ rest) (length prefix) refl) in
    none (length prefix) (past (length prefix) line at (subst (λ (l : List Line). IsOneTooMany is_such (count_by is_such l) line) before many)))

methods_counted : (methods : List MethodSource) → length methods ≤ count_by is_method (flat_map method_lines methods)
methods_counted [] = omega arith
methods_counted (Bodiless flags name desc ∷ methods) =
    let e = count_yes is_method (Abstract flags name desc) (flat_map method_lines methods) refl in
    let r = methods_counted methods in
    omega (arith, e, r)
methods_counted (Coded flags name desc stack locals parts ∷ methods) =
    let method = method_lines (Coded flags name desc stack locals parts) in
    let sum = count_both is_method method (flat_map method_lines methods) in
    let e = count_yes is_method (Method flags name desc) (Stack stack ∷ (Locals locals ∷ (body_lines parts ++ End ∷ []))) refl in
    let r = methods_counted methods in
    omega (arith, sum, e, r)

module _ (s : Source) where
  abbrev prefix_part : List Line
  prefix_part = Class s.flags s.name ∷ version_lines s.version

  -- the interfaces, the fields and the methods
  pub few_interfaces : NoLine (IsPastTable s) → length s.interfaces ≤ most_lines
  few_interfaces none =
      let all = table_fits s is_interface none (λ place line at many. record { line = line; at = at; too_many = inl many }) in
      let a = count_both is_interface (head_lines s) (flat_map method_lines s.methods) in
      let b = count_both is_interface (prefix_part ++ Super s.super ∷ map Implements s.interfaces) (map field_line s.fields) in
      let c = count_both is_interface prefix_part (Super s.super ∷ map Implements s.interfaces) in
      let d = count_no is_interface (Super s.super) (map Implements s.interfaces) refl in
      let e = count_map is_interface Implements s.interfaces (λ name. refl) in
      omega (arith, all, a, b, c, d, e)

  pub few_fields : NoLine (IsPastTable s) → length s.fields ≤ most_lines
  few_fields none =
      let all = table_fits s is_field none (λ place line at many. record { line = line; at = at; too_many = inr (inl many) }) in
      let a = count_both is_field (head_lines s) (flat_map method_lines s.methods) in
      let b = count_both is_field (prefix_part ++ Super s.super ∷ map Implements s.interfaces) (map field_line s.fields) in
      let e = count_map is_field field_line s.fields (λ field. refl) in
      omega (arith, all, a, b, e)

  pub few_methods : NoLine (IsPastTable s) → length s.methods ≤ most_lines
  few_methods none =
      let all = table_fits s is_method none (λ place line at many. record { line = line; at = at; too_many = inr (inr many) }) in
      let a = count_both is_method (head_lines s) (flat_map method_lines s.methods) in
      let m = methods_counted s.methods in
      omega (arith, all, a, m)

-- ---- the ranges of a body

pub ranges_counted : (places : Places) (body : List Line) → length (flat_map (ranges_in places) body) ≡ count_by is_catch body
ranges_counted places [] = refl
ranges_counted places (Beside (Catch class from to handler) ∷ body) =
    let e = count_yes is_catch (Beside (Catch class from to handler)) body refl in
    let r = ranges_counted places body in
    omega (arith, e, r)
ranges_counted places (line ∷ body) =
    let e = count_no is_catch line body refl in
    let r = ranges_counted places body in
    omega (arith, e, r)
