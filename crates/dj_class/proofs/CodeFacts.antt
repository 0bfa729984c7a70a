-- The body of a Code attribute at plain values: what is read of its bytes, its bytes, and what reading them answers.
use Rattle.std.proofs.Common.{◌≡◌, ◌≢◌, ℕ, ◌+◌, List, [], ◌∷◌, ◌++◌, map, take, drop, Result, Ok, Err, refl, sym, ap, subst, ◌∙◌, arith}
use Rattle.dj_cursor.specs.Reading.{many_at, table_at}
use Rattle.dj_pool.proofs.AnswerFacts.{are_bytes}
use Rattle.dj_class.specs.declared.class.ClassError.{ClassError}
use Rattle.dj_class.specs.declared.class.ClassError.TheVariants as errors
use Rattle.dj_class.specs.declared.code.CodeView.{CodeView}
use Rattle.dj_class.specs.trusted.Code.{CodeInfo, code_info_bytes, IsCode}
use Rattle.dj_class.specs.CodeViews.{code_of, ReadsCode}
use Rattle.dj_class.specs.CodeReading.{code_length_at, code_prefix_at, row_at, code_attribute_at, code_read}
use Rattle.dj_class.proofs.CodeLaws.{reads_code, one_code, one_code_fault, faulty_is_no_code}

-- ---- a body with two rows and two attributes

unfoldable pub body : CodeInfo
body = record {
  max_stack = 2;
  max_locals = 3;
  code = 42 ∷ 176 ∷ [];
  table = record { start = 4; end = 5; handler = 6; catch_type = 7 } ∷ record { start = 264; end = 265; handler = 266; catch_type = 267 } ∷ [];
  attributes = record { name = 8; body = 9 ∷ [] } ∷ record { name = 10; body = 11 ∷ 12 ∷ [] } ∷ [];
}

unfoldable pub bytes : List ℕ
bytes =
    0 ∷ 2 ∷ 0 ∷ 3 ∷ 0 ∷ 0 ∷ 0 ∷ 2 ∷ 42 ∷ 176
    ∷ 0 ∷ 2 ∷ 0 ∷ 4 ∷ 0 ∷ 5 ∷ 0 ∷ 6 ∷ 0 ∷ 7 ∷ 1 ∷ 8 ∷ 1 ∷ 9 ∷ 1 ∷ 10 ∷ 1 ∷ 11
    ∷ 0 ∷ 2 ∷ 0 ∷ 8 ∷ 0 ∷ 0 ∷ 0 ∷ 1 ∷ 9 ∷ 0 ∷ 10 ∷ 0 ∷ 0 ∷ 0 ∷ 2 ∷ 11 ∷ 12 ∷ []

-- another body: the first two numbers change places
swapped : CodeInfo
swapped = record { max_stack = 3; max_locals = 2; code = body.code; table = body.table; attributes = body.attributes }

body-bytes : code_info_bytes body ≡ bytes
unfolding body bytes
body-bytes = refl

swapped-bytes_not : code_info_bytes swapped ≢ bytes
unfolding swapped body bytes
swapped-bytes_not h = absurd cc

body-read : code_read bytes ≡ Ok body
unfolding body bytes many_at table_at code_length_at code_prefix_at row_at code_attribute_at code_read
body-read = refl

-- ---- and what is wrong with others

unfoldable pub with_byte : ℕ → ℕ → List ℕ
with_byte place byte = take place bytes ++ byte ∷ drop (place + 1) bytes

-- with a byte more; cut in the last attribute, in the first, in a row, in the count of rows, in the code, in its length and in the numbers before it; with
-- a length that no code has, and with a count of one attribute more and one less
bodies : List (List ℕ)
bodies =
    (bytes ++ 0 ∷ [])
    ∷ (take 44 bytes)
    ∷ (take 36 bytes)
    ∷ (take 27 bytes)
    ∷ (take 11 bytes)
    ∷ (take 9 bytes)
    ∷ (take 7 bytes)
    ∷ (take 3 bytes)
    ∷ (take 1 bytes)
    ∷ (with_byte 5 1)
    ∷ (with_byte 29 3)
    ∷ (with_byte 29 1)
    ∷ []

answers : List (Result CodeInfo ClassError)
answers =
    Err (errors.Trailing 45)
    ∷ Err (errors.Cut 43)
    ∷ Err (errors.Cut 36)
    ∷ Err (errors.Cut 26)
    ∷ Err (errors.Cut 10)
    ∷ Err (errors.Cut 8)
    ∷ Err (errors.Cut 4)
    ∷ Err (errors.Cut 2)
    ∷ Err (errors.Cut 0)
    ∷ Err (errors.Index 4)
    ∷ Err (errors.Cut 45)
    ∷ Err (errors.Trailing 37)
    ∷ []

bodies-read : map code_read bodies ≡ answers
unfolding bodies answers with_byte bytes many_at table_at code_length_at code_prefix_at row_at code_attribute_at code_read
bodies-read = refl

-- ---- what reading answers

pub body-is : IsCode bytes body
unfolding body bytes
body-is = record {
  spelled = refl;
  valid = record {
    max_stack = omega arith;
    max_locals = omega arith;
    some_code = omega arith;
    few_code = omega arith;
    row_count = omega arith;
    rows = (record { start = omega arith; end = omega arith; handler = omega arith; catch_type = omega arith }, (record { start = omega arith; end = omega arith; handler = omega arith; catch_type = omega arith }, tt));
    attribute_count = omega arith;
    attributes = (record { name = omega arith; body = omega arith }, (record { name = omega arith; body = omega arith }, tt));
  };
}

-- the views that show the body, and those alone
body-answered : (view : CodeView) → code_of view ≡ body → ReadsCode bytes (Ok view)
body-answered view shows = subst (IsCode bytes) (sym shows) body-is

body-answered_alone : (view : CodeView) → ReadsCode bytes (Ok view) → code_of view ≡ body
body-answered_alone view h = one_code bytes (code_of view) body h body-is

swapped-answered_not : (view : CodeView) → code_of view ≡ swapped → ReadsCode bytes (Ok view) → ⊥
unfolding body swapped
swapped-answered_not view shows h =
    let same : swapped ≡ body = sym shows ∙ body-answered_alone view h in
    let stack : 3 ≡ 2 = ap (λ (c : CodeInfo). c.max_stack) same in
    omega (arith, stack)

-- what such a view shows, part by part
record IsShown (view : CodeView) : Type 0 where
  max_stack : view.max_stack ≡ 2
  max_locals : view.max_locals ≡ 3
  code : view.code.now ≡ 42 ∷ 176 ∷ []
  table : view.table ≡ record { start = 4; end = 5; handler = 6; catch_type = 7 } ∷ record { start = 264; end = 265; handler = 266; catch_type = 267 } ∷ []
  attributes : view.attributes ≡ record { name = 8; body = 9 ∷ [] } ∷ record { name = 10; body = 11 ∷ 12 ∷ [] } ∷ []

body-shown : (view : CodeView) → ReadsCode bytes (Ok view) → IsShown view
unfolding body
body-shown view h =
    let same = body-answered_alone view h in
    record {
      max_stack = ap (λ (c : CodeInfo). c.max_stack) same;
      max_locals = ap (λ (c : CodeInfo). c.max_locals) same;
      code = ap (λ (c : CodeInfo). c.code) same;
      table = ap (λ (c : CodeInfo). c.table) same;
      attributes = ap (λ (c : CodeInfo). c.attributes) same;
    }

other_stack-shown_not : (view : CodeView) → view.max_stack ≡ 3 → ReadsCode bytes (Ok view) → ⊥
other_stack-shown_not view stack h = omega (arith, stack, (body-shown view h).max_stack)

-- nothing is reported to be wrong with it but that memory ran out
body-refused : (e : ClassError) → ReadsCode bytes (Err e) → e ≡ errors.Memory
body-refused errors.Memory h = refl
body-refused errors.Magic h = absurd (faulty_is_no_code bytes errors.Magic h body body-is)
body-refused (errors.Pool e) h = absurd (faulty_is_no_code bytes (errors.Pool e) h body body-is)
body-refused (errors.Cut place) h = absurd (faulty_is_no_code bytes (errors.Cut place) h body body-is)
body-refused (errors.Index place) h = absurd (faulty_is_no_code bytes (errors.Index place) h body body-is)
body-refused (errors.Trailing place) h = absurd (faulty_is_no_code bytes (errors.Trailing place) h body body-is)

body-cut_not : ReadsCode bytes (Err (errors.Cut 43)) → ⊥
body-cut_not h = let reported = body-refused (errors.Cut 43) h in absurd cc

-- the place that an error has
place_of : ClassError → ℕ
place_of (errors.Cut place) = place
place_of (errors.Index place) = place
place_of (errors.Trailing place) = place
place_of _ = 0

-- a byte after the last item: its place, and no other kind of error
pub trailing-reported : ReadsCode (bytes ++ 0 ∷ []) (Err (errors.Trailing 45))
unfolding bytes many_at table_at code_length_at code_prefix_at row_at code_attribute_at code_read
trailing-reported = reads_code (bytes ++ 0 ∷ []) (Err (errors.Trailing 45)) (are_bytes (bytes ++ 0 ∷ []) refl) refl

trailing-place_not : ReadsCode (bytes ++ 0 ∷ []) (Err (errors.Trailing 44)) → ⊥
unfolding place_of
trailing-place_not h = let same = one_code_fault (bytes ++ 0 ∷ []) _ _ h trailing-reported in omega (arith, ap place_of same)

trailing-cut_not : ReadsCode (bytes ++ 0 ∷ []) (Err (errors.Cut 45)) → ⊥
trailing-cut_not h = let same = one_code_fault (bytes ++ 0 ∷ []) _ _ h trailing-reported in absurd cc

trailing-index_not : ReadsCode (bytes ++ 0 ∷ []) (Err (errors.Index 4)) → ⊥
trailing-index_not h = let same = one_code_fault (bytes ++ 0 ∷ []) _ _ h trailing-reported in absurd cc

trailing-view_not : (view : CodeView) → ReadsCode (bytes ++ 0 ∷ []) (Ok view) → ⊥
trailing-view_not view h = faulty_is_no_code (bytes ++ 0 ∷ []) _ trailing-reported (code_of view) h

-- an item that is not there whole: where it begins, not where the bytes end
cut-reported : ReadsCode (take 44 bytes) (Err (errors.Cut 43))
unfolding bytes many_at table_at code_length_at code_prefix_at row_at code_attribute_at code_read
cut-reported = reads_code (take 44 bytes) (Err (errors.Cut 43)) (are_bytes (take 44 bytes) refl) refl

cut-place_not : ReadsCode (take 44 bytes) (Err (errors.Cut 44)) → ⊥
unfolding place_of
cut-place_not h = let same = one_code_fault (take 44 bytes) _ _ h cut-reported in omega (arith, ap place_of same)

cut-trailing_not : ReadsCode (take 44 bytes) (Err (errors.Trailing 44)) → ⊥
cut-trailing_not h = let same = one_code_fault (take 44 bytes) _ _ h cut-reported in absurd cc

cut-index_not : ReadsCode (take 44 bytes) (Err (errors.Index 43)) → ⊥
cut-index_not h = let same = one_code_fault (take 44 bytes) _ _ h cut-reported in absurd cc

cut-view_not : (view : CodeView) → ReadsCode (take 44 bytes) (Ok view) → ⊥
cut-view_not view h = faulty_is_no_code (take 44 bytes) _ cut-reported (code_of view) h

-- a length that no code has: where it stands
pub length-reported : ReadsCode (with_byte 5 1) (Err (errors.Index 4))
unfolding bytes with_byte many_at table_at code_length_at code_prefix_at row_at code_attribute_at code_read
length-reported = reads_code (with_byte 5 1) (Err (errors.Index 4)) (are_bytes (with_byte 5 1) refl) refl

length-place_not : ReadsCode (with_byte 5 1) (Err (errors.Index 6)) → ⊥
unfolding place_of
length-place_not h = let same = one_code_fault (with_byte 5 1) _ _ h length-reported in omega (arith, ap place_of same)

length-cut_not : ReadsCode (with_byte 5 1) (Err (errors.Cut 4)) → ⊥
length-cut_not h = let same = one_code_fault (with_byte 5 1) _ _ h length-reported in absurd cc

length-later_not : ReadsCode (with_byte 5 1) (Err (errors.Cut 8)) → ⊥
length-later_not h = let same = one_code_fault (with_byte 5 1) _ _ h length-reported in absurd cc

length-view_not : (view : CodeView) → ReadsCode (with_byte 5 1) (Ok view) → ⊥
length-view_not view h = faulty_is_no_code (with_byte 5 1) _ length-reported (code_of view) h
