-- What stands above a class, by names and by numbers.
use Rattle.std.proofs.Common.{◌≡◌, ℕ, zero, suc, ◌⊎◌, Bool, true, false, List, [], ◌∷◌, Contains, Option, Some, None, refl, sym, ap, ◌∙◌, subst, inl, inr}
use Rattle.std.specs.Prelude.{slice_get, IsSomeAnd, is_none, ◌||◌}
use Rattle.std.specs.Option.{option_map}
use Rattle.std.specs.List.{list_any}
use Rattle.std.proofs.lemmas.Option.{same_Some, slice_get-map}
use Rattle.dj_names.specs.trusted.Types.{Name}
use Rattle.dj_model.specs.trusted.Program.{Program, Class}
use Rattle.dj_model.specs.trusted.Linking.{option_list}
use Rattle.dj_class_table.specs.Tables.{class_number, class_numbers, name_at, is_lacking}
use Rattle.dj_class_table.specs.ClassRows.{RiseStrictly}
use Rattle.dj_class_table.proofs.Numbered.{name_at-number, class_number-rise}
use Rattle.dj_graph.specs.Graphs.{HasEdge, Reaches, Here, Along}
use Rattle.dj_loader.specs.Loads.{above_names, StandsUnder, LacksAbove, StandsBelow, IsOwnAncestor}
use Rattle.dj_loader.specs.Numbered.{above_numbers, edges_in, IsOnCycle, IsLacking}
use Rattle.dj_loader.proofs.Lists.{member_first, member_later, member_none, member_cases, member_prefix, member_back, member_of_either, place_of_member, member_at_place}
use Rattle.dj_loader.proofs.Named.{name_there, number_none, at_none_from_number, number_of_member, same_number}

-- ---- tests of lists

pub any_member : {A : Type 0} (test : A → Bool) (xs : List A) → list_any test xs ≡ true → (x : A) × Contains xs x × (test x ≡ true)
any_member test [] e = absurd cc
any_member test (x ∷ xs) e = by (test x) refl e (any_member test xs) where
  by : (b : Bool) → test x ≡ b → (b || list_any test xs) ≡ true → (list_any test xs ≡ true → (y : _) × Contains xs y × (test y ≡ true)) → (y : _) × Contains (x ∷ xs) y × (test y ≡ true)
  by true is e rest = (x, member_first x xs, is)
  by false is e rest = let (y, m, so) = rest e in (y, member_later x xs y m, so)

pub member_any : {A : Type 0} (test : A → Bool) (xs : List A) (x : A) → Contains xs x → test x ≡ true → list_any test xs ≡ true
member_any test [] x m so = absurd (member_none x m)
member_any test (y ∷ xs) x m so = by (test y) refl (member_cases y xs x m) (λ later. member_any test xs x later so) where
  by : (b : Bool) → test y ≡ b → (y ≡ x) ⊎ Contains xs x → (Contains xs x → list_any test xs ≡ true) → (b || list_any test xs) ≡ true
  by true is either rest = refl
  by false is either rest = elim either [ inl e ↦ (let t : test y ≡ true = ap test e ∙ so in absurd cc) | inr later ↦ rest later ]

-- ---- numbers of names

number_among : (program : Program) (names : List Name) (name : Name) (t : ℕ) → Contains names name → class_number program name ≡ Some t → Contains (class_numbers program names) t
number_among program [] name t m e = absurd (member_none name m)
number_among program (n ∷ names) name t m e =
    elim (member_cases n names name m) [
      | inl is ↦
          let here : option_list (class_number program n) ≡ t ∷ [] = ap option_list (ap (class_number program) is ∙ e) in
          member_prefix (option_list (class_number program n)) (class_numbers program names) t (subst (λ (ts : List ℕ). Contains ts t) (sym here) (member_first t []))
      | inr later ↦ member_back (option_list (class_number program n)) (class_numbers program names) t (number_among program names name t later e)
    ]

among_number : (program : Program) (names : List Name) (t : ℕ) → Contains (class_numbers program names) t → (name : Name) × Contains names name × (class_number program name ≡ Some t)
among_number program [] t m = absurd (member_none t m)
among_number program (n ∷ names) t m =
    elim (member_of_either (option_list (class_number program n)) (class_numbers program names) t m) [
      | inl prefix ↦ (n, member_first n names, one_option (class_number program n) prefix)
      | inr back ↦ (let (name, own, e) = among_number program names t back in (name, member_later n names name own, e))
    ]
  where
    one_option : (o : Option ℕ) → Contains (option_list o) t → o ≡ Some t
    one_option None prefix = absurd (member_none t prefix)
    one_option (Some k) prefix = elim (member_cases k [] t prefix) [ inl e ↦ ap Some e | inr later ↦ absurd (member_none t later) ]

-- ---- edges

module _ (rows : Program) (rise : RiseStrictly rows) where
  edges_at : (k : ℕ) (c : Class) → slice_get rows k ≡ Some c → slice_get (edges_in rows) k ≡ Some (above_numbers rows c)
  edges_at k c e = slice_get-map (above_numbers rows) rows k ∙ ap (option_map (above_numbers rows)) e

  edge_there : (k t : ℕ) (c : Class) → slice_get rows k ≡ Some c → Contains (above_numbers rows c) t → HasEdge (edges_in rows) k t
  edge_there k t c e m = subst (λ (o : Option (List ℕ)). IsSomeAnd o (λ targets. Contains targets t)) (sym (edges_at k c e)) m

  there_edge : (k t : ℕ) → HasEdge (edges_in rows) k t → (c : Class) × (slice_get rows k ≡ Some c) × Contains (above_numbers rows c) t
  there_edge k t edge = by (slice_get rows k) refl (subst (λ (o : Option (List ℕ)). IsSomeAnd o (λ targets. Contains targets t)) (slice_get-map (above_numbers rows) rows k) edge) where
    by : (o : Option Class) → slice_get rows k ≡ o → IsSomeAnd (option_map (above_numbers rows) o) (λ targets. Contains targets t) → (c : Class) × (slice_get rows k ≡ Some c) × Contains (above_numbers rows c) t
    by None is m = absurd m
    by (Some c) is m = (c, is, m)

  pub under_edge : (a b : Name) (t : ℕ) → StandsUnder rows a b → class_number rows b ≡ Some t → (k : ℕ) × (name_at rows k ≡ Some a) × HasEdge (edges_in rows) k t
  under_edge a b t under e =
      let (k, at) = place_of_member rows under.class under.there in
      (k, name_there rows k under.class at ∙ ap Some under.named, edge_there k t under.class at (number_among rows (above_names under.class) b t under.listed e))

  pub edge_under : (k t : ℕ) (a : Name) → HasEdge (edges_in rows) k t → name_at rows k ≡ Some a → (b : Name) × (name_at rows t ≡ Some b) × StandsUnder rows a b
  edge_under k t a edge named =
      let (c, at, m) = there_edge k t edge in
      let (b, listed, e) = among_number rows (above_names c) t m in (
        b,
        name_at-number rows b t e,
        record {
          class = c;
          there = member_at_place rows k c at;
          named = same_Some c.name a (sym (name_there rows k c at) ∙ named);
          listed = listed;
        },
      )

  -- ---- ways upward

  below_reaches : (n : ℕ) (a b : Name) (j : ℕ) → StandsBelow n rows a b → class_number rows b ≡ Some j
      → (k : ℕ) × (name_at rows k ≡ Some a) × ((t : ℕ) × HasEdge (edges_in rows) k t × Reaches (edges_in rows) t j)
  below_reaches zero a b j under e = let (k, named, edge) = under_edge a b j under e in (k, named, (j, edge, Here))
  below_reaches (suc n) a b j (between, under, below) e =
      let (i, named, (t, edge, rest)) = below_reaches n between b j below e in
      let (k, own, first) = under_edge a between i under (class_number-rise rows rise i between named) in
      (k, own, (i, first, Along edge rest))

  reaches_below : (k t j : ℕ) (a b : Name) → HasEdge (edges_in rows) k t → Reaches (edges_in rows) t j → name_at rows k ≡ Some a → name_at rows j ≡ Some b → (n : ℕ) × StandsBelow n rows a b
  reaches_below k t j a b edge Here named last =
      let (m, at, under) = edge_under k t a edge named in
      (0, subst (StandsUnder rows a) (same_Some m b (sym at ∙ last)) under)
  reaches_below k t j a b edge (Along {b = i} next rest) named last =
      let (m, at, under) = edge_under k t a edge named in
      let (n, below) = reaches_below t i j m b next rest at last in
      (suc n, (m, under, below))

  first_there : (n : ℕ) (a b : Name) → StandsBelow n rows a b → (k : ℕ) × (class_number rows a ≡ Some k)
  first_there zero a b under = let (k, at, e) = number_of_member rows rise under.class a under.there under.named in (k, e)
  first_there (suc n) a b (between, under, below) = let (k, at, e) = number_of_member rows rise under.class a under.there under.named in (k, e)

  pub cycle_from_ancestor : (name : Name) → IsOwnAncestor rows name → (k : ℕ) × (name_at rows k ≡ Some name) × IsOnCycle rows k
  cycle_from_ancestor name (n, below) =
      let (j, e) = first_there n name name below in
      let (k, named, (t, edge, way)) = below_reaches n name name j below e in
      let same : j ≡ k = same_number rows rise j k name (name_at-number rows name j e) named in
      (k, named, (t, edge, subst (Reaches (edges_in rows) t) same way))

  pub ancestor_from_cycle : (k : ℕ) (name : Name) → name_at rows k ≡ Some name → IsOnCycle rows k → IsOwnAncestor rows name
  ancestor_from_cycle k name named (t, edge, way) = reaches_below k t k name name edge way named named

  -- ---- classes under absent ones

  pub lacking_number : (name : Name) → LacksAbove rows name → (k : ℕ) × (name_at rows k ≡ Some name) × IsLacking rows k
  lacking_number name (above, under, none) =
      let (k, at) = place_of_member rows under.class under.there in
      let absent : is_lacking rows above ≡ true = ap is_none (number_none rows above none) in
      (k, name_there rows k under.class at ∙ ap Some under.named, (under.class, at, member_any (is_lacking rows) (above_names under.class) above under.listed absent))

  pub lacking_name : (k : ℕ) (name : Name) → name_at rows k ≡ Some name → IsLacking rows k → LacksAbove rows name
  lacking_name k name named (c, at, lacks) =
      let (above, listed, absent) = any_member (is_lacking rows) (above_names c) lacks in (
        above,
        record {
          class = c;
          there = member_at_place rows k c at;
          named = same_Some c.name name (sym (name_there rows k c at) ∙ named);
          listed = listed;
        },
        at_none_from_number rows above (none_from_test (class_number rows above) absent),
      )
    where
      none_from_test : (o : Option ℕ) → is_none o ≡ true → o ≡ None
      none_from_test None e = refl
      none_from_test (Some x) e = absurd cc
