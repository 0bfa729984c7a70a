-- The edges as the code holds them, and results.
use Rattle.std.proofs.Common.{◌≡◌, ℕ, ◌<◌, List, [], length, get_or, option_map, Result, Ok, Err, OnOk, IfOk, refl, ◌∙◌, ap, subst, arith}
use Rattle.std.specs.Global.{Vec}
use Rattle.std.proofs.lemmas.List.{length-map}
use Rattle.std.proofs.lemmas.Option.{slice_get_read, slice_get-map, get_or_from_slice_get}
use Rattle.dj_graph.specs.Graphs.{Edges, IsInside, edges_of}
use Rattle.dj_graph.proofs.Lists.{At, at_within}

pub on_ok : {T E : Type 0} (r : Result T E) (P Q : Type 0) → (P → Q) → OnOk r P → OnOk r Q
on_ok (Ok x) P Q f h = f h
on_ok (Err e) P Q f h = tt

pub if_ok : {T E : Type 0} (r : Result T E) (P Q : T → Type 0) → ((x : T) → P x → Q x) → IfOk r P → IfOk r Q
if_ok (Ok x) P Q f h = f x h
if_ok (Err e) P Q f h = tt

pub edges_count : (lists : List (Vec ℕ)) → length (edges_of lists) ≡ length lists
edges_count lists = length-map lists (λ (targets : Vec ℕ). targets.items)

pub read_at : {X : Type 0} (xs : List X) (i : ℕ) (x : X) → i < length xs → x ≡ get_or xs i x → At xs i x
read_at xs i x lt is = slice_get_read xs (length xs) i x refl lt is

pub targets_at : (lists : List (Vec ℕ)) (i : ℕ) (targets : Vec ℕ) → i < length lists → targets ≡ get_or lists i targets → At (edges_of lists) i targets.items
targets_at lists i targets lt is =
    slice_get-map (λ (t : Vec ℕ). t.items) lists i ∙ ap (option_map (λ (t : Vec ℕ). t.items)) (read_at lists i targets lt is)

pub target_known : (edges : Edges) (a e target : ℕ) (targets : List ℕ) → IsInside edges → At edges a targets → At targets e target → target < length edges
target_known edges a e target targets inside node edge =
    let there = inside a [] (at_within edges a targets node) e 0 in
    let list : get_or edges a [] ≡ targets = get_or_from_slice_get edges a targets [] node in
    let item : get_or targets e 0 ≡ target = get_or_from_slice_get targets e target 0 edge in
    let here : e < length targets → get_or targets e 0 < length edges = subst (λ (ts : List ℕ). e < length ts → get_or ts e 0 < length edges) list there in
    let lt = here (at_within targets e target edge) in
    omega (arith, lt, item)
