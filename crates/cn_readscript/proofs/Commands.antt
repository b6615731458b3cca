-- What is read as commands makes a script.
use Rattle.std.proofs.Common.{◌≡◌, ℕ, ℤ, pos, negsuc, suc, ◌<◌, ◌≤◌, List, [], ◌∷◌, length, codes, ◌++◌, Option, None, Some, ok_or, Ok, Err, refl, ap, subst, arith}
use Rattle.std.specs.List.{All}
use Rattle.std.proofs.lemmas.Bool.Decides.{nat_tests}
use Rattle.std.proofs.lemmas.List.Elements.{All-nil, All-cons}
use Rattle.toml.specs.Data.{Data, Items, no_items, item, Members}
use Rattle.toml.specs.View.{items_view}
use Rattle.toml.specs.declared.value.Value.{Value as CodeValue}
use Rattle.cn_text.specs.declared.answer.TextAnswer.{TextAnswer}
use Rattle.cn_text.specs.declared.answer.TextAnswer.TheVariants.{Value, TooLong}
use Rattle.cn_lists.specs.Steps.{◌>>=◌}
use Rattle.cn_lists.proofs.Loops.{Ok-from_bind}
use Rattle.cn_table.specs.Tables.{front_of, needed, integer_of, table_of, item_path, number_within, number_at, array_at, each, only}
use Rattle.cn_change.specs.Script.{CountFits, IsScript}
use Rattle.cn_readscript.specs.Script.{kind_at, pull_keys, work_keys, command_in, command_of, item_count, at_most, commands_at}
use Rattle.cn_change.specs.declared.command.Command.{Command}
use Rattle.cn_change.specs.declared.command.Command.TheVariants.{Pull, Work}
use Rattle.cn_readscript.specs.declared.kind.Kind.{Kind}
use Rattle.cn_readscript.specs.declared.kind.Kind.TheVariants as kinds

-- ---- how many commands there are

item_count-view : (vs : List CodeValue) → item_count (items_view vs) ≡ length vs
item_count-view [] = refl
item_count-view (v ∷ vs) = ap (λ (n : ℕ). suc n) (item_count-view vs)

-- items that are few enough are counted
pub few_enough : (most : ℕ) (vs : List CodeValue) → length vs ≤ most
    → at_most most (items_view vs) ≡ Ok tt
few_enough most vs few = rw (item_count-view vs) (grind (arith, nat_tests))

-- items that are too many are told with their count
pub too_many : (most : ℕ) (vs : List CodeValue) → most < length vs
    → at_most most (items_view vs) ≡ Err (TooLong (length vs))
too_many most vs many = rw (item_count-view vs) (grind (arith, nat_tests))

-- ---- what a step that was taken says

counted_from : (most : ℕ) (items : Items) (u : Unit {0}) → at_most most items ≡ Ok u
    → item_count items ≤ most
counted_from most items u h = grind (arith, nat_tests)

some_from : {X : Type 0} (o : Option X) (e : TextAnswer) (x : X) → ok_or o e ≡ Ok x → o ≡ Some x
some_from None e x h = cc
some_from (Some y) e x h = cc

-- ---- the counts

within : (low high : ℕ) (z : ℤ) (n : ℕ) → number_within low high z ≡ Some n → (low ≤ n) × (n ≤ high)
within low high (pos m) n h = grind (arith, nat_tests)
within low high (negsuc m) n h = cc

number_within_range : (low high : ℕ) (front key : List ℕ) (ms : Members) (n : ℕ)
    → number_at low high front key ms ≡ Ok n → (low ≤ n) × (n ≤ high)
unfolding number_at
number_within_range low high front key ms n h =
    let rule = λ (z : ℤ). ok_or (number_within low high z) (Value (front ++ key)) in
    let (d, there, after) =
    Ok-from_bind (needed front key ms) (λ d. integer_of (front ++ key) d >>= rule) n h in
    let (z, whole, inside) = Ok-from_bind (integer_of (front ++ key) d) rule n after in
    within low high z n (some_from (number_within low high z) (Value (front ++ key)) n inside)

command_fits : (kind : Kind) (front : List ℕ) (ms : Members) (c : Command)
    → command_in kind front ms ≡ Ok c → CountFits c
unfolding command_in
command_fits kinds.Pull front ms c h =
    let (no_more, listed, made) = Ok-from_bind (only front pull_keys ms) (λ _. Ok Pull) c h in
    let same : Pull ≡ c = cc in
    subst CountFits same tt
command_fits kinds.Work front ms c h =
    let (count, there, after) =
    Ok-from_bind (number_at 1 1000000 front (codes "count") ms)
    (λ n. only front work_keys ms >>= λ _. Ok (Work n)) c h in
    let (no_more, listed, made) =
    Ok-from_bind (only front work_keys ms) (λ _. Ok (Work count)) c after in
    let same : Work count ≡ c = cc in
    subst CountFits same (number_within_range 1 1000000 front (codes "count") ms count there)

read_fits : (path : List ℕ) (d : Data) (c : Command) → command_of path d ≡ Ok c → CountFits c
unfolding command_of
read_fits path d c h =
    let (ms, table, after) =
    Ok-from_bind (table_of path d)
    (λ ms. kind_at (front_of path) ms >>= λ kind. command_in kind (front_of path) ms) c h in
    let (kind, there, made) =
    Ok-from_bind (kind_at (front_of path) ms) (λ kind. command_in kind (front_of path) ms) c
    after in
    command_fits kind (front_of path) ms c made

-- ---- the commands of an array

all_fit : (path : List ℕ) (i : ℕ) (ds : Items) (cs : List Command)
    → each command_of path i ds ≡ Ok cs → (length cs ≡ item_count ds) × All CountFits cs
unfolding each
all_fit path i no_items cs h =
    let same : [] ≡ cs = cc in
    subst (λ (xs : List Command). (length xs ≡ 0) × All CountFits xs) same (refl, All-nil CountFits)
all_fit path i (item d ds) cs h =
    let (c, here, after) =
    Ok-from_bind (command_of (item_path path i) d)
    (λ x. each command_of path (suc i) ds >>= λ xs. Ok (x ∷ xs)) cs h in
    let (others, later, made) =
    Ok-from_bind (each command_of path (suc i) ds) (λ xs. Ok (c ∷ xs)) cs after in
    let same : c ∷ others ≡ cs = cc in
    let (as_many, fit) = all_fit path (suc i) ds others later in
    subst (λ (xs : List Command). (length xs ≡ suc (item_count ds)) × All CountFits xs) same (
      ap (λ (n : ℕ). suc n) as_many,
      All-cons CountFits c others (read_fits (item_path path i) d c here) fit,
    )

-- commands that were read make a script
pub makes_script : (ms : Members) (cs : List Command) → commands_at ms ≡ Ok cs → IsScript cs
unfolding commands_at
makes_script ms cs h =
    let (items, there, after) =
    Ok-from_bind (array_at [] (codes "command") ms)
    (λ ds. at_most 10000 ds >>= λ _. each command_of (codes "command") 0 ds) cs h in
    let (few, counted, read) =
    Ok-from_bind (at_most 10000 items) (λ _. each command_of (codes "command") 0 items) cs after in
    let (as_many, fit) = all_fit (codes "command") 0 items cs read in
    let enough = counted_from 10000 items few counted in
    record { few = omega arith; counts = fit }
