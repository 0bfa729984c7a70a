-- A text that means a file has no fault, and a text has one fault at most.
use Rattle.std.proofs.Common.{◌≡◌, ℕ, ◌<◌, inl, inr, List, Some, slice_get, sym, ap, ◌∙◌, subst, arith}
use Rattle.std.proofs.lemmas.Bool.{cases_lt}
use Rattle.std.proofs.lemmas.Option.{same_Some}
use Rattle.dj_asm_source.specs.declared.error.AsmError.{AsmError}
use Rattle.dj_asm_source.specs.declared.error.AsmError.TheVariants as asm_errors
use Rattle.dj_asm_source.specs.trusted.Sources.{Source, IsTextOf}
use Rattle.dj_asm_source.specs.trusted.Labels.{IsMislabelled, LabelFault, line_numbers}
use Rattle.dj_asm_source.proofs.FaultLaws.{no_fault_of_text, one_word_fault}
use Rattle.dj_asm_source.proofs.OneSource.{one_source}
use Rattle.dj_asm.specs.trusted.Large.{IsTooLarge}
use Rattle.dj_asm_pool.specs.trusted.Room.{NoLine}
use Rattle.dj_asm.specs.trusted.Texts.{IsTextOfBytes, LargeFault, TextFault}

-- ---- no fault of a file's text

no_line_of : (text : List ℕ) (IsSuch : Source → ℕ → Type 0) (a b : Source) (place : ℕ) → IsTextOf text a → IsTextOf text b → NoLine (IsSuch a) → IsSuch b place → ⊥
no_line_of text IsSuch a b place p q none such = none place (subst (λ s. IsSuch s place) (one_source text b a q p) such)

-- a text with a fault means no file
pub no_file_where_fault : (text bytes : List ℕ) (e : AsmError) → IsTextOfBytes text bytes → TextFault text e → ⊥
no_file_where_fault text bytes e t (inl fault) = no_fault_of_text text t.source e t.is_text fault
no_file_where_fault text bytes e t (inr (inl fault)) = no_line_of text IsMislabelled t.source fault.source fault.place t.is_text fault.is_text t.labelled fault.wrong
no_file_where_fault text bytes e t (inr (inr fault)) = no_line_of text IsTooLarge t.source fault.source fault.place t.is_text fault.is_text t.fits fault.large

-- ---- one fault

-- the least such place is one
least_same : (IsSuch : ℕ → Type 0) (a b : ℕ) → IsSuch a → IsSuch b → ((x : ℕ) → x < a → IsSuch x → ⊥) → ((x : ℕ) → x < b → IsSuch x → ⊥) → a ≡ b
least_same IsSuch a b p q first_a first_b =
    elim (cases_lt a b) [
      | inl lt ↦ absurd (first_b a lt p)
      | inr le ↦ elim (cases_lt b a) [ inl lt ↦ absurd (first_a b lt q) | inr ge ↦ omega (arith, le, ge) ]
    ]

line_same : (text : List ℕ) (a b : ℕ) (l m : ℕ) → a ≡ b → slice_get (line_numbers text) a ≡ Some l → slice_get (line_numbers text) b ≡ Some m → l ≡ m
line_same text a b l m same p q = same_Some l m (sym p ∙ (ap (λ (place : ℕ). slice_get (line_numbers text) place) same ∙ q))

label_same : (text : List ℕ) (e f : AsmError) → LabelFault text e → LabelFault text f → e ≡ f
label_same text e f p q =
    let same : q.source ≡ p.source = one_source text q.source p.source q.is_text p.is_text in
    let place : p.place ≡ q.place =
    least_same (IsMislabelled p.source) p.place q.place p.wrong (subst (λ s. IsMislabelled s q.place) same q.wrong) p.first
    (λ x lt such. q.first x lt (subst (λ s. IsMislabelled s x) (sym same) such)) in
    p.reported ∙ (ap (λ (l : ℕ). asm_errors.Label l) (line_same text p.place q.place p.line q.line place p.number q.number) ∙ sym q.reported)

large_same : (text : List ℕ) (e f : AsmError) → LargeFault text e → LargeFault text f → e ≡ f
large_same text e f p q =
    let same : q.source ≡ p.source = one_source text q.source p.source q.is_text p.is_text in
    let place : p.place ≡ q.place =
    least_same (IsTooLarge p.source) p.place q.place p.large (subst (λ s. IsTooLarge s q.place) same q.large) p.first
    (λ x lt such. q.first x lt (subst (λ s. IsTooLarge s x) (sym same) such)) in
    p.reported ∙ (ap (λ (l : ℕ). asm_errors.Large l) (line_same text p.place q.place p.line q.line place p.number q.number) ∙ sym q.reported)

-- a text has one fault at most
pub one_fault : (text : List ℕ) (e f : AsmError) → TextFault text e → TextFault text f → e ≡ f
one_fault text e f (inl p) (inl q) = one_word_fault text e f p q
one_fault text e f (inl p) (inr (inl q)) = absurd (no_fault_of_text text q.source e q.is_text p)
one_fault text e f (inl p) (inr (inr q)) = absurd (no_fault_of_text text q.source e q.is_text p)
one_fault text e f (inr (inl p)) (inl q) = absurd (no_fault_of_text text p.source f p.is_text q)
one_fault text e f (inr (inr p)) (inl q) = absurd (no_fault_of_text text p.source f p.is_text q)
one_fault text e f (inr (inl p)) (inr (inl q)) = label_same text e f p q
one_fault text e f (inr (inl p)) (inr (inr q)) = absurd (no_line_of text IsMislabelled q.source p.source p.place q.is_text p.is_text q.labelled p.wrong)
one_fault text e f (inr (inr p)) (inr (inl q)) = absurd (no_line_of text IsMislabelled p.source q.source q.place p.is_text q.is_text p.labelled q.wrong)
one_fault text e f (inr (inr p)) (inr (inr q)) = large_same text e f p q
