-- The way up from a class to those that are initialised.
use Rattle.std.proofs.Common.{◌≡◌, ℕ, zero, suc, ◌+◌, ◌-◌, ◌<◌, ◌≤◌, ◌⊎◌, Bool, true, false, List, [], ◌∷◌, ◌++◌, length, set, Option, Some, None, nat_eq, refl, sym, ap, subst, ◌∙◌, arith, inl, inr, if◌then◌else◌, append_assoc, append-nil}
use Rattle.std.specs.Prelude.{All, IfSome}
use Rattle.std.proofs.Common.{eqb-true}
use Rattle.std.proofs.lemmas.Bool.{eqb-false}
use Rattle.std.proofs.lemmas.List.{get_or-set_other, length_push, set-get_or}
use Rattle.std.proofs.lemmas.Grind.{get_or-set_at}
use Rattle.std.proofs.lemmas.List.Elements.{All-nil, All-push}
use Rattle.std.proofs.lemmas.Option.{none-some, same_Some}
use Rattle.dj_model.specs.trusted.Program.{Program}
use Rattle.dj_model.specs.trusted.Linking.{most_classes, chain}
use Rattle.dj_model.proofs.MappedNames.{either}
use Rattle.dj_class_table.specs.Tables.{super_number}
use Rattle.dj_class_table.proofs.Numbered.{super_number-within}
use Rattle.dj_resolution.specs.Linked.{class_name}
use Rattle.dj_resolution.specs.Numbers.{numbers_up}
use Rattle.dj_resolution.proofs.Levels.{most_is}
use Rattle.dj_resolution.proofs.Resolution.{DoNamesDiffer, numbers_of_class}
use Rattle.dj_initialisation.specs.Flags.{has_begun, not_begun, AreFlags}
use Rattle.dj_initialisation.specs.Waiting.{names_of, marks, waiting_count, IsWalked, AreWaiting}
use Rattle.dj_initialisation.proofs.FlagLaws.{waits, marks_push, marks_length, marked_names, one_less, at_most, begun_within}

-- ---- where a class is initialised nothing waits above it

set_again : (flags : List Bool) (k : ℕ) → has_begun flags k ≡ true → set flags k true ≡ flags
set_again flags k begun = ap (set flags k) (sym begun) ∙ set-get_or flags k true

pub none_waits : (program : Program) (flags : List Bool) → ((k j : ℕ) → has_begun flags k ≡ true → super_number program k ≡ Some j → has_begun flags j ≡ true)
    → (levels : ℕ) (next : Option ℕ) → IfSome next (λ k. has_begun flags k ≡ true) → not_begun flags (numbers_up levels program next) ≡ []
unfolding numbers_up
none_waits program flags above zero next begun = refl
none_waits program flags above (suc levels) None begun = refl
none_waits program flags above (suc levels) (Some k) begun =
    ap (λ (b : Bool). (if b then [] else k ∷ []) ++ not_begun (set flags k true) (numbers_up levels program (super_number program k))) begun
    ∙ ap (λ (fs : List Bool). not_begun fs (numbers_up levels program (super_number program k))) (set_again flags k begun)
    ∙ none_waits program flags above levels (super_number program k) (by (super_number program k) refl)
  where
    by : (o : Option ℕ) → super_number program k ≡ o → IfSome o (λ j. has_begun flags j ≡ true)
    by None is = tt
    by (Some j) is = above k j begun is

-- ---- one class more

few_levels : (levels n : ℕ) → n < levels → levels - n ≡ suc (levels - (n + 1))
few_levels levels n lt = omega arith

first_rest : (program : Program) (levels : ℕ) (now : List Bool) (at : ℕ) → has_begun now at ≡ false
    → not_begun now (numbers_up (suc levels) program (Some at)) ≡ at ∷ not_begun (set now at true) (numbers_up levels program (super_number program at))
unfolding numbers_up
first_rest program levels now at none =
    ap (λ (b : Bool). (if b then [] else at ∷ []) ++ not_begun (set now at true) (numbers_up levels program (super_number program at))) none

module _ (program : Program) (levels class : ℕ) (old now : List Bool) (path more : List ℕ) (at : ℕ) (walked : IsWalked program levels class old now path (Some at))
    (none : has_begun now at ≡ false) (is : more ≡ path ++ at ∷ []) (room : waiting_count old ≤ levels) where
  long : length more ≡ length path + 1
  long = ap length is ∙ length_push path at

  one_fewer : suc (waiting_count (set now at true)) ≡ waiting_count now
  one_fewer = one_less now at none

  within : length path < levels
  within = let few = walked.few in let one = one_fewer in omega (arith, few, one, room)

  rest_more : not_begun old (numbers_up levels program (Some class)) ≡ more ++ not_begun (set now at true) (numbers_up (levels - length more) program (super_number program at))
  rest_more =
      walked.rest
      ∙ ap (λ (n : ℕ). path ++ not_begun now (numbers_up n program (Some at))) (few_levels levels (length path) within)
      ∙ ap (λ (ks : List ℕ). path ++ ks) (first_rest program (levels - (length path + 1)) now at none)
      ∙ sym (append_assoc path (at ∷ []) (not_begun (set now at true) (numbers_up (levels - (length path + 1)) program (super_number program at))))
      ∙ ap (λ (ks : List ℕ). ks ++ not_begun (set now at true) (numbers_up (levels - (length path + 1)) program (super_number program at))) (sym is)
      ∙ ap (λ (n : ℕ). more ++ not_begun (set now at true) (numbers_up (levels - n) program (super_number program at))) (sym long)

  still : (j : ℕ) → has_begun now j ≡ true → has_begun (set now at true) j ≡ true
  still j begun = elim (either (nat_eq j at)) [
    | inl e ↦ get_or-set_at now at j true true (eqb-true j at e) (begun_within now at none)
    | inr e ↦ get_or-set_other now at j true true (eqb-false j at e) ∙ begun
  ]

  above_more : (k j : ℕ) → has_begun (set now at true) k ≡ true → super_number program k ≡ Some j
      → (has_begun (set now at true) j ≡ true) ⊎ (super_number program at ≡ Some j)
  above_more k j begun super = elim (either (nat_eq k at)) [
    | inl e ↦ inr (ap (super_number program) (sym (eqb-true k at e)) ∙ super)
    | inr e ↦ elim (walked.above k j (sym (get_or-set_other now at k true true (eqb-false k at e)) ∙ begun) super) [
      | inl there ↦ inl (still j there)
      | inr next ↦ inl (get_or-set_at now at j true true (sym (same_Some at j next)) (begun_within now at none))
    ]
  ]

  there_more : (o : Option ℕ) → super_number program at ≡ o → IfSome o (λ k. k < length program)
  there_more None e = tt
  there_more (Some j) e = super_number-within program at j e

  pub walked_more : IsWalked program levels class old (set now at true) more (super_number program at)
  walked_more = record {
    rest = rest_more;
    few = let few = walked.few in let one = one_fewer in let l = long in omega (arith, few, one, l);
    flags = ap (λ (fs : List Bool). set fs at true) walked.flags ∙ sym (marks_push old path at) ∙ ap (marks old) (sym is);
    numbers = subst (λ (ks : List ℕ). All (λ k. k < length program) ks) (sym is) (All-push (λ k. k < length program) path at walked.numbers walked.there);
    there = there_more (super_number program at) refl;
    above = above_more;
  }

-- ---- the first look, and the end

pub walked_begun : (program : Program) (class : ℕ) (old : List Bool) → class < length program → AreFlags program old → IsWalked program most_classes class old old [] (Some class)
walked_begun program class old lt are = record {
  rest = ap (λ (n : ℕ). not_begun old (numbers_up n program (Some class))) (whole most_classes);
  few = omega arith;
  flags = refl;
  numbers = All-nil (λ k. k < length program);
  there = lt;
  above = λ k j begun super. inl (are.above k j begun super);
} where
  whole : (n : ℕ) → n ≡ n - 0
  whole n = omega arith

pub room_above : (program : Program) (old : List Bool) → AreFlags program old → waiting_count old ≤ most_classes
room_above program old are = rw most_is (let few = are.few in let count = are.count in let e = at_most old in omega (arith, few, count, e))

pub walked_up : (program : Program) (class : ℕ) (old now : List Bool) (path : List ℕ) (next : Option ℕ) → DoNamesDiffer program → class < length program → AreFlags program old
    → IsWalked program most_classes class old now path next → IfSome next (λ k. has_begun now k ≡ true) → AreWaiting program class old now path
walked_up program class old now path next differ lt are walked end =
    record {
      names = waits program old (chain program (class_name program class))
          ∙ ap (λ (ks : List ℕ). names_of program (not_begun old ks)) (numbers_of_class program class differ lt)
          ∙ ap (names_of program) (walked.rest ∙ ap (λ (ks : List ℕ). path ++ ks) (none_waits program now above_end (most_classes - length path) next end) ∙ append-nil path);
      flags = marked_names program path old differ walked.numbers ∙ sym walked.flags;
      numbers = walked.numbers;
      are = record {
        count = ap length walked.flags ∙ marks_length old path ∙ are.count;
        few = are.few;
        above = above_end;
      };
    }
  where
    ended : (o : Option ℕ) (j : ℕ) → IfSome o (λ k. has_begun now k ≡ true) → o ≡ Some j → has_begun now j ≡ true
    ended None j end is = absurd (none-some j is)
    ended (Some k) j end is = subst (λ (n : ℕ). has_begun now n ≡ true) (same_Some k j is) end

    above_end : (k j : ℕ) → has_begun now k ≡ true → super_number program k ≡ Some j → has_begun now j ≡ true
    above_end k j begun super = elim (walked.above k j begun super) [ inl there ↦ there | inr is ↦ ended next j end is ]
