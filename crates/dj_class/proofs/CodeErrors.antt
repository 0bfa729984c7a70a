-- Which errors reading the body of a Code attribute has: what is cut, a code's length, and what follows the last item.
use Rattle.std.proofs.Common.{◌≡◌, ℕ, List, Err, length, sym, subst, inl, inr}
use Rattle.std.specs.Prelude.{⊤}
use Rattle.dj_cursor.specs.trusted.Spelling.{u2, u4, table_bytes}
use Rattle.dj_cursor.specs.Reading.{Cursor, start_of}
use Rattle.dj_cursor.specs.Faults.{IsCut, IsAmong, InTurn, InTable, IsLeft, Fits2, Fits4, AreFew}
use Rattle.dj_pool.specs.declared.pool.PoolError.{PoolError}
use Rattle.dj_class.specs.declared.class.ClassError.{ClassError}
use Rattle.dj_class.specs.declared.class.ClassError.TheVariants as errors
use Rattle.dj_class.specs.trusted.ClassFile.{attribute_bytes}
use Rattle.dj_class.specs.trusted.Code.{row_bytes, IsRow, IsCodeAttribute}
use Rattle.dj_class.specs.Faults.{Fault, Cut2, Cut4}
use Rattle.dj_class.specs.CodeFaults.{IsCodeLength, LengthFault, RowFault, CodeAttributeFault, BodyFault}
use Rattle.dj_class.specs.CodeViews.{ReadsCode}

abbrev IsCodeError : ClassError → Type 0
IsCodeError (errors.Cut place) = ⊤
IsCodeError (errors.Index place) = ⊤
IsCodeError (errors.Trailing place) = ⊤
IsCodeError _ = ⊥

-- the fault reports such an error
abbrev Says : Fault → Type 0
Says F = (c : Cursor) (e : ClassError) → F c e → IsCodeError e

cut_says : (n : ℕ) → Says (IsCut errors.Cut n)
cut_says n c e f = subst IsCodeError (sym f.reported) tt

turn_says : {A : Type 0} (F : Fault) (bytes_of : A → List ℕ) (IsGood : A → Type 0) (Later : A → Fault) → Says F → ((a : A) → Says (Later a)) → Says (InTurn F bytes_of IsGood Later)
turn_says F bytes_of IsGood Later now later c e (inl f) = now c e f
turn_says F bytes_of IsGood Later now later c e (inr a) = later a.value _ e a.fault

among_says : {A : Type 0} (bytes_of : A → List ℕ) (IsGood : A → Type 0) (F : Fault) (n : ℕ) → Says F → Says (IsAmong bytes_of IsGood F n)
among_says bytes_of IsGood F n now c e a = now _ e a.fault

table_says : {A : Type 0} (bytes_of : A → List ℕ) (IsGood : A → Type 0) (F : Fault) → Says F → Says (InTable errors.Cut bytes_of IsGood F)
table_says bytes_of IsGood F now = turn_says Cut2 u2 Fits2 (IsAmong bytes_of IsGood F) (cut_says 2) (λ n. among_says bytes_of IsGood F n now)

length_says : Says LengthFault
length_says c e (inl f) = cut_says 4 c e f
length_says c e (inr f) = subst IsCodeError (sym f.reported) tt

row_says : Says RowFault
row_says = turn_says Cut2 u2 Fits2 _ (cut_says 2) (λ start. turn_says Cut2 u2 Fits2 _ (cut_says 2) (λ end. turn_says Cut2 u2 Fits2 _ (cut_says 2) (λ handler. cut_says 2)))

attribute_says : Says CodeAttributeFault
attribute_says = turn_says Cut2 u2 Fits2 _ (cut_says 2) (λ name. turn_says Cut4 u4 Fits4 _ (cut_says 4) (λ len. cut_says len))

left_says : Says (IsLeft errors.Trailing)
left_says c e f = subst IsCodeError (sym f.reported) tt

body_says : Says BodyFault
body_says =
    turn_says Cut2 u2 Fits2 _ (cut_says 2) (λ max_stack.
    turn_says Cut2 u2 Fits2 _ (cut_says 2) (λ max_locals.
    turn_says LengthFault u4 IsCodeLength _ length_says (λ len.
    turn_says (IsCut errors.Cut len) (λ code. code) (λ code. length code ≡ len) _ (cut_says len) (λ code.
    turn_says (InTable errors.Cut row_bytes IsRow RowFault) (table_bytes row_bytes) (AreFew IsRow) _ (table_says row_bytes IsRow RowFault row_says) (λ table.
    turn_says (InTable errors.Cut attribute_bytes IsCodeAttribute CodeAttributeFault) (table_bytes attribute_bytes) (AreFew IsCodeAttribute) _ (table_says attribute_bytes IsCodeAttribute CodeAttributeFault attribute_says) (λ attributes.
    left_says))))))

-- so none is the pool's or the magic number's
no_pool_error : (body : List ℕ) (e : PoolError) → ReadsCode body (Err (errors.Pool e)) → ⊥
no_pool_error body e r = body_says (start_of body) (errors.Pool e) r

no_magic_error : (body : List ℕ) → ReadsCode body (Err errors.Magic) → ⊥
no_magic_error body r = body_says (start_of body) errors.Magic r
