-- The names that are reported for the first numbers.
use Rattle.std.proofs.Common.{◌≡◌, ℕ, ◌+◌, ◌<◌, Bool, false, List, Some, inl, inr, sym, ap, ◌∙◌, subst, arith}
use Rattle.std.specs.Prelude.{slice_get}
use Rattle.std.specs.Option.{option_map}
use Rattle.std.specs.List.{list_any}
use Rattle.std.proofs.lemmas.Bool.{cases_lt}
use Rattle.std.proofs.lemmas.Option.{same_Some}
use Rattle.dj_names.specs.trusted.Types.{Name}
use Rattle.dj_model.specs.trusted.Program.{Program}
use Rattle.dj_class_table.specs.Tables.{name_at, lacks_above}
use Rattle.dj_class_table.specs.ClassRows.{RiseStrictly}
use Rattle.dj_graph.specs.Graphs.{Edges}
use Rattle.dj_loader.specs.Loads.{LacksAbove, IsOwnAncestor, IsLeast, Never}
use Rattle.dj_loader.specs.Numbered.{IsLacking, IsOnCycle, IsFirst, NeverSo, has_number, LeadsBack}
use Rattle.dj_loader.proofs.Named.{least_name, never_name}
use Rattle.dj_loader.proofs.Upward.{lacking_number, lacking_name, cycle_from_ancestor, ancestor_from_cycle}

-- none up to a number, and not that one
pub none_more : (IsSuch : ℕ → Type 0) (n : ℕ) → ((j : ℕ) → j < n → IsSuch j → ⊥) → (IsSuch n → ⊥) → (j : ℕ) → j < n + 1 → IsSuch j → ⊥
none_more IsSuch n before not j lt such =
    elim (cases_lt j n) [
      | inl less ↦ before j less such
      | inr after ↦ not (subst IsSuch (let same : j ≡ n = omega (arith, lt, after) in same) such)
    ]

pub not_lacking : (program : Program) (k : ℕ) (b : Bool) → Some b ≡ option_map (lacks_above program) (slice_get program k) → b ≡ false → IsLacking program k → ⊥
not_lacking program k b reported is_false (c, at, lacks) =
    let is : b ≡ lacks_above program c = same_Some b (lacks_above program c) (reported ∙ ap (option_map (lacks_above program)) at) in
    absurd cc

pub not_back : (edges : Edges) (numbers : List ℕ) (node own : ℕ) (targets : List ℕ) (b : Bool) → slice_get numbers node ≡ Some own → slice_get edges node ≡ Some targets → b ≡ list_any (has_number numbers own) targets
    → b ≡ false → LeadsBack edges numbers node → ⊥
not_back edges numbers node own targets b numbered at reported is_false (own', targets', numbered', at', leads) =
    let same : own ≡ own' = same_Some own own' (sym numbered ∙ numbered') in
    let ends : targets ≡ targets' = same_Some targets targets' (sym at ∙ at') in
    let test : list_any (has_number numbers own) targets ≡ list_any (has_number numbers own') targets' = (λ i. list_any (has_number numbers (same i)) (ends i)) in
    absurd cc

module _ (rows : Program) (rise : RiseStrictly rows) where
  pub least_lacking : (k : ℕ) (name : Name) → Some name ≡ name_at rows k → IsFirst (IsLacking rows) k → IsLeast (LacksAbove rows) name
  least_lacking k name named first = least_name rows rise (LacksAbove rows) (IsLacking rows) (lacking_number rows rise) k name (sym named) first (lacking_name rows rise k name (sym named) first.such)

  pub never_lacking : NeverSo (IsLacking rows) → Never (LacksAbove rows)
  never_lacking never = never_name rows (LacksAbove rows) (IsLacking rows) (lacking_number rows rise) never

  pub least_cycle : (k : ℕ) (name : Name) → Some name ≡ name_at rows k → IsFirst (IsOnCycle rows) k → IsLeast (IsOwnAncestor rows) name
  least_cycle k name named first = least_name rows rise (IsOwnAncestor rows) (IsOnCycle rows) (cycle_from_ancestor rows rise) k name (sym named) first (ancestor_from_cycle rows rise k name (sym named) first.such)

  pub never_cycle : NeverSo (IsOnCycle rows) → Never (IsOwnAncestor rows)
  never_cycle never = never_name rows (IsOwnAncestor rows) (IsOnCycle rows) (cycle_from_ancestor rows rise) never
