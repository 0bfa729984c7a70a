-- Classes on cycles are those from which an edge leads to a class of the same component.
use Rattle.std.proofs.Common.{◌≡◌, ℕ, ◌+◌, ◌<◌, ◌≤◌, ◌^◌, true, List, [], ◌∷◌, ◌++◌, length, get_or, map, take, Contains, Option, Some, None, refl, sym, ap, ◌∙◌, subst, arith}
use Rattle.std.specs.Prelude.{slice_get, IsSomeAnd, All, nat_eq, option_and_then, MatchOption, IfSome}
use Rattle.std.specs.Option.{option_map}
use Rattle.std.specs.Global.{Vec}
use Rattle.std.proofs.lemmas.Bool.Decides.{nat_tests}
use Rattle.std.proofs.lemmas.List.{take_more, take_all, map-append, length-map}
use Rattle.std.proofs.lemmas.Option.{slice_get-map, slice_get_within, slice_get-get_or, get_or_from_slice_get}
use Rattle.dj_names.specs.trusted.Types.{Name}
use Rattle.dj_model.specs.trusted.Program.{Program, Class, superclass_of, interfaces_of}
use Rattle.dj_model.specs.trusted.Linking.{option_list}
use Rattle.dj_class_table.specs.Tables.{class_number, class_numbers, super_number, interface_numbers}
use Rattle.dj_class_table.proofs.Numbered.{class_numbers-within}
use Rattle.dj_graph.specs.Graphs.{Edges, HasEdge, Reaches, Here, Along, AreComponents, IsInside, edges_of}
use Rattle.dj_loader.specs.Loads.{above_names}
use Rattle.dj_loader.specs.Numbered.{above_numbers, edges_in, IsOnCycle, IsFirst, NeverSo, has_number, is_own, LeadsBack}
use Rattle.dj_loader.proofs.Lists.{some_of_map}
use Rattle.dj_loader.proofs.Upward.{any_member, member_any}

-- ---- edges of a table

-- the numbers above a class, as a table has them
pub above_there : (program : Program) (k : ℕ) (c : Class) → slice_get program k ≡ Some c → option_list (super_number program k) ++ interface_numbers program k ≡ above_numbers program c
above_there program k c e =
    ap (λ (o : Option Class). option_list (option_and_then (class_number program) (superclass_of o)) ++ class_numbers program (interfaces_of o)) e ∙ split c.superclass
  where
    split : (o : Option Name) → option_list (option_and_then (class_number program) o) ++ class_numbers program c.interfaces ≡ class_numbers program (option_list o ++ c.interfaces)
    split None = refl
    split (Some name) = refl

-- those of one class more
pub edges_more : (program : Program) (k : ℕ) (lists : List (Vec ℕ)) (added : Vec ℕ) → k < length program → edges_of lists ≡ map (above_numbers program) (take k program)
    → added.items ≡ option_list (super_number program k) ++ interface_numbers program k → edges_of (lists ++ added ∷ []) ≡ map (above_numbers program) (take (k + 1) program)
edges_more program k lists added lt so_far is = by program refl where
  by : (all : Program) → program ≡ all → edges_of (lists ++ added ∷ []) ≡ map (above_numbers program) (take (k + 1) program)
  by [] same = absurd (omega (arith, lt, ap (λ (p : Program). length p) same))
  by (d ∷ more) same =
      let here : slice_get program k ≡ Some (get_or program k d) = slice_get-get_or program k d lt in
      let last : added.items ≡ above_numbers program (get_or program k d) = is ∙ above_there program k (get_or program k d) here in
      map-append (λ (targets : Vec ℕ). targets.items) lists (added ∷ [])
      ∙ (λ i. so_far i ++ last i ∷ [])
      ∙ sym (map-append (above_numbers program) (take k program) (get_or program k d ∷ []))
      ∙ ap (map (above_numbers program)) (sym (take_more program k d lt))

pub all_edges : (program : Program) (k : ℕ) (lists : List (Vec ℕ)) → length program ≤ k → edges_of lists ≡ map (above_numbers program) (take k program) → edges_of lists ≡ edges_in program
all_edges program k lists le so_far = so_far ∙ ap (map (above_numbers program)) (take_all k program le)

pub edges_inside : (program : Program) → IsInside (edges_in program)
edges_inside program from d l =
    let (c, at, is) = some_of_map (above_numbers program) program from (get_or (edges_in program) from d) (slice_get-get_or (edges_in program) from d l) in
    let within : All (λ k. k < length program) (above_numbers program c) = class_numbers-within program (above_names c) in
    let many : length program ≡ length (edges_in program) = sym (length-map program (above_numbers program)) in
    subst (λ (targets : List ℕ). All (λ target. target < length (edges_in program)) targets) is
    (subst (λ (n : ℕ). All (λ target. target < n) (above_numbers program c)) many within)

pub few_edges : (program : Program) (lists : List (Vec ℕ)) → edges_of lists ≡ edges_in program → length program < 2 ^ 31 → length lists < 2 ^ 31
few_edges program lists are few =
    let a = sym (length-map lists (λ (targets : Vec ℕ). targets.items)) ∙ ap length are ∙ length-map program (above_numbers program) in
    omega (arith, few, a)

-- ---- nodes of lists

pub targets_there : (lists : List (Vec ℕ)) (node : ℕ) (list : Vec ℕ) (targets : List ℕ) → node < length lists → list ≡ get_or lists node list → targets ≡ list.items → slice_get (edges_of lists) node ≡ Some targets
targets_there lists node list targets lt at are =
    slice_get-map (λ (ts : Vec ℕ). ts.items) lists node
    ∙ ap (option_map (λ (ts : Vec ℕ). ts.items)) (slice_get-get_or lists node list lt ∙ ap Some (sym at))
    ∙ ap Some (sym are)

pub node_within : (lists : List (Vec ℕ)) (numbers : List ℕ) (node : ℕ) → AreComponents (edges_of lists) numbers → node < length lists → node < length numbers
node_within lists numbers node components lt = (let a = components.all ∙ length-map lists (λ (targets : Vec ℕ). targets.items) in omega (arith, lt, a))

pub leads_within : (lists : List (Vec ℕ)) (numbers : List ℕ) (node : ℕ) → LeadsBack (edges_of lists) numbers node → node < length lists
leads_within lists numbers node (own, targets, numbered, at, leads) =
    let lt = slice_get_within (edges_of lists) node targets at in
    let a = length-map lists (λ (ts : Vec ℕ). ts.items) in
    omega (arith, lt, a)

-- ---- nodes from which an edge leads back

own_from_test : (own : ℕ) (o : Option ℕ) → is_own own o ≡ true → o ≡ Some own
own_from_test own None e = absurd cc
own_from_test own (Some n) e = (let same : n ≡ own = grind (arith, nat_tests) in ap Some same)

test_of_own : (own : ℕ) (o : Option ℕ) → o ≡ Some own → is_own own o ≡ true
test_of_own own o e = ap (is_own own) e ∙ same own where
  same : (n : ℕ) → nat_eq n n ≡ true
  same n = grind (arith, nat_tests)

module _ (edges : Edges) (numbers : List ℕ) (components : AreComponents edges numbers) where
  pub way_back : (node : ℕ) → LeadsBack edges numbers node → (t : ℕ) × HasEdge edges node t × Reaches edges t node
  way_back node (own, targets, numbered, at, leads) =
      let (t, m, same) = any_member (has_number numbers own) targets leads in
      let there : slice_get numbers t ≡ Some own = own_from_test own (slice_get numbers t) same in
      (t, subst (λ (o : Option (List ℕ)). IsSomeAnd o (λ ts. Contains ts t)) (sym at) m, ((components.each t node own own there numbered).0 refl).0)

  pub leads_on_way : IsInside edges → (node t : ℕ) → HasEdge edges node t → Reaches edges t node → LeadsBack edges numbers node
  leads_on_way inside node t edge way = by (slice_get edges node) refl edge where
    by : (o : Option (List ℕ)) → slice_get edges node ≡ o → IsSomeAnd o (λ targets. Contains targets t) → LeadsBack edges numbers node
    by None at m = absurd m
    by (Some targets) at m =
        let here : node < length numbers = (let lt = slice_get_within edges node targets at in omega (arith, lt, components.all)) in
        let own : ℕ = get_or numbers node 0 in
        let numbered : slice_get numbers node ≡ Some own = slice_get-get_or numbers node 0 here in
        let same_targets : get_or edges node targets ≡ targets = get_or_from_slice_get edges node targets targets at in
        let within : t < length edges =
        (let all = subst (λ (ts : List ℕ). All (λ target. target < length edges) ts) same_targets (inside node targets (slice_get_within edges node targets at)) in
        subst (λ (x : ℕ). x < length edges) m.2 (all m.0 t m.1)) in
        let other : ℕ = get_or numbers t 0 in
        let other_numbered : slice_get numbers t ≡ Some other = slice_get-get_or numbers t 0 (omega (arith, within, components.all)) in
        let same : other ≡ own = (components.each t node other own other_numbered numbered).1 (way, Along edge Here) in
        (own, targets, numbered, at, member_any (has_number numbers own) targets t m (test_of_own own (slice_get numbers t) (other_numbered ∙ ap Some same)))

-- ---- the first class on a cycle

module _ (program : Program) (edges : Edges) (numbers : List ℕ) (are : edges ≡ edges_in program) (components : AreComponents edges numbers) where
  cycle_from_back : (node : ℕ) → LeadsBack edges numbers node → IsOnCycle program node
  cycle_from_back node leads =
      let (t, edge, way) = way_back edges numbers components node leads in
      (t, subst (λ (es : Edges). HasEdge es node t) are edge, subst (λ (es : Edges). Reaches es t node) are way)

  back_from_cycle : (node : ℕ) → IsOnCycle program node → LeadsBack edges numbers node
  back_from_cycle node (t, edge, way) =
      leads_on_way edges numbers components (subst IsInside (sym are) (edges_inside program)) node t
      (subst (λ (es : Edges). HasEdge es node t) (sym are) edge) (subst (λ (es : Edges). Reaches es t node) (sym are) way)

  pub first_of_cycles : (found : Option ℕ) → MatchOption found (NeverSo (LeadsBack edges numbers)) (IsFirst (LeadsBack edges numbers)) → MatchOption found (NeverSo (IsOnCycle program)) (IsFirst (IsOnCycle program))
  first_of_cycles None never = λ k cycle. never k (back_from_cycle k cycle)
  first_of_cycles (Some k) first = record { such = cycle_from_back k first.such; first = λ j lt cycle. first.first j lt (back_from_cycle j cycle) }

  pub first_within : (found : Option ℕ) → MatchOption found (NeverSo (LeadsBack edges numbers)) (IsFirst (LeadsBack edges numbers)) → IfSome found (λ k. k < length program)
  first_within None never = tt
  first_within (Some k) first =
      let (own, targets, numbered, at, leads) = first.such in
      let lt = slice_get_within edges k targets at in
      omega (arith, lt, ap length are ∙ length-map program (above_numbers program))
