-- The legs tried one by one, and in groups, come to the expansion of a label. Assumes nothing.
use Rattle.std.proofs.Common.{◌≡◌, ℕ, zero, suc, ◌+◌, ◌*◌, ◌/◌, ◌<◌, Bool, true, false, List, [], ◌∷◌, ◌++◌, ◌==◌, length, get_or, take, drop, refl, sym, ap, ◌∙◌, arith, length-drop}
use Rattle.std.specs.List.{list_all, list_any}
use Rattle.std.specs.Simd.{first_chunks}
use Rattle.std.proofs.lemmas.Bool.{cond-false, and_parts, or_parts}
use Rattle.std.proofs.lemmas.Grind.{common_steps}
use Rattle.std.proofs.lemmas.List.{drop-drop, take-append-drop, length-take}
use Rattle.std.proofs.lemmas.List.Folds.{list_all-append}
use Rattle.network.specs.declared.legs.Leg.{Leg}
use Rattle.worksheet.specs.declared.records.Label.{Label}
use Rattle.worksheet.specs.Problem.{Setting, Problem}
use Rattle.worksheet.specs.Steps.{State, expand, is_open, try}
use Rattle.search.specs.Calls.{Worksheet, problem_of}

-- the loop over the legs
module _ (p : Problem) (parent : ℕ) (from : Label) where
  -- a search that has stopped tries no leg
  pub closed : (j : ℕ) (legs : List Leg) (s : State) → is_open s.phase ≡ false → expand p parent from j legs s ≡ s
  closed j [] s shut = refl
  closed j (leg ∷ more) s shut =
      let same : try p parent from j leg s ≡ s = cond-false _ _ _ shut in
      ap (expand p parent from (suc j) more) same ∙ closed (suc j) more s shut

  -- a leg from another site alters nothing
  elsewhere : (j : ℕ) (leg : Leg) (s : State) → (leg.tail == from.site) ≡ false → try p parent from j leg s ≡ s
  elsewhere j leg s other = grind arith

  -- nor do legs that all leave other sites
  pub passed : (j : ℕ) (legs : List Leg) (s : State) → list_any (λ leg. leg.tail == from.site) legs ≡ false → expand p parent from j legs s ≡ s
  passed j [] s none = refl
  passed j (leg ∷ more) s none =
      let others = or_parts _ _ none in
      ap (expand p parent from (suc j) more) (elsewhere j leg s others.0) ∙ passed (suc j) more s others.1

  -- legs are tried in two parts
  in_parts : (j : ℕ) (legs more : List Leg) (s : State) → expand p parent from j (legs ++ more) s ≡ expand p parent from (j + length legs) more (expand p parent from j legs s)
  in_parts j [] more s = ap (λ k. expand p parent from k more s) (omega arith)
  in_parts j (leg ∷ legs) more s =
      let t = try p parent from j leg s in
      in_parts (suc j) legs more t ∙ ap (λ k. expand p parent from k more (expand p parent from (suc j) legs t)) (omega arith)

-- group i of those of n
group_at : {X : Type 0} (n k : ℕ) (xs : List X) (i : ℕ) → i < k → get_or (first_chunks n k xs) i [] ≡ take n (drop (i * n) xs)
group_at n zero xs i below = grind arith
group_at n (suc k) xs zero below =
    let none : 0 ≡ 0 * n = omega arith in
    ap (λ m. take n (drop m xs)) none
group_at n (suc k) xs (suc i) below = group_at n k (drop n xs) i (omega (arith, below)) ∙ ap (take n) (drop-drop (i * n) n xs ∙ ap (λ m. drop m xs) (omega arith))

-- the legs of a group, and how many they are
pub group_is : (groups : List (List Leg)) (table legs : List Leg) (i : ℕ) → table ≡ legs → groups ≡ first_chunks 16 (length table / 16) table → length groups ≡ length table / 16 → i < length groups
    → (get_or groups i [] ≡ take 16 (drop (i * 16) legs)) × (length (get_or groups i []) ≡ 16)
group_is groups table legs i same cut many below =
    let part : get_or groups i [] ≡ take 16 (drop (i * 16) legs) = ap (λ gs. get_or gs i []) cut ∙ group_at 16 (length table / 16) table i (omega (arith, many, below)) ∙ ap (λ ls. take 16 (drop (i * 16) ls)) same in
    (part, grind (arith, length-take, length-drop))

-- a test that all pass, those of a part pass
module _ {X : Type 0} (test : X → Bool) where
  both_pass : (n : ℕ) (xs : List X) → list_all test xs ≡ true → (list_all test (take n xs) ≡ true) × (list_all test (drop n xs) ≡ true)
  both_pass n xs all = and_parts _ _ (sym (list_all-append test (take n xs) (drop n xs)) ∙ ap (list_all test) (take-append-drop n xs) ∙ all)

  pub rest_passes : (m : ℕ) (xs : List X) → list_all test xs ≡ true → list_all test (drop m xs) ≡ true
  rest_passes m xs all = (both_pass m xs all).1

  pub group_passes : (n m : ℕ) (xs : List X) → list_all test xs ≡ true → list_all test (take n (drop m xs)) ≡ true
  group_passes n m xs all = (both_pass n (drop m xs) (rest_passes m xs all)).0

-- how far a loop has come, over legs that are numbered from `first` on: the search is open, what is left of the legs, from
-- number j on, gives the expansion, and the queue keeps its room
pub record Expanding (s : Setting) (w₀ : Worksheet) (parent : ℕ) (from : Label) (first : ℕ) (legs : List Leg) (w : Worksheet) (room j : ℕ) (more : List Leg) : Type 0 where
  pub same_room : room ≡ s.capacity
  pub going : is_open w.state.phase ≡ true
  pub asked : w.query ≡ w₀.query
  pub left : expand (problem_of s w₀) parent from j more w.state ≡ expand (problem_of s w₀) parent from first legs w₀.state

-- once a group is tried, the legs after it are left
pub group_tried : (s : Setting) (w₀ w : Worksheet) (parent : ℕ) (from : Label) (legs group : List Leg) (room i : ℕ) → Expanding s w₀ parent from 0 legs w room (i * 16) (drop (i * 16) legs)
    → group ≡ take 16 (drop (i * 16) legs) → length group ≡ 16
    → expand (problem_of s w₀) parent from ((i + 1) * 16) (drop ((i + 1) * 16) legs) (expand (problem_of s w₀) parent from (i * 16) group w.state) ≡ expand (problem_of s w₀) parent from 0 legs w₀.state
group_tried s w₀ w parent from legs group room i so_far part whole =
    let try_from = expand (problem_of s w₀) parent from in
    let rest = drop ((i + 1) * 16) legs in
    let next : (i + 1) * 16 ≡ i * 16 + length group = omega (arith, whole) in
    let after : rest ≡ drop 16 (drop (i * 16) legs) = sym (drop-drop 16 (i * 16) legs ∙ ap (λ m. drop m legs) (omega arith)) in
    let joined : group ++ rest ≡ drop (i * 16) legs = ap (λ ls. ls ++ rest) part ∙ ap (λ ls. take 16 (drop (i * 16) legs) ++ ls) after ∙ take-append-drop 16 (drop (i * 16) legs) in
    ap (λ k. try_from k rest (try_from (i * 16) group w.state)) next ∙ sym (in_parts (problem_of s w₀) parent from (i * 16) group rest w.state) ∙ ap (λ ls. try_from (i * 16) ls w.state) joined ∙ so_far.left

-- what `try_each` needs of its legs
pub ruleset leg_by_leg = (common_steps, closed)

-- and `expand`
pub ruleset group_by_group = (common_steps, closed, rest_passes)
