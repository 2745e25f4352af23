-- Names of tables are words, so that they can be printed.
use Rattle.std.proofs.Common.{◌≡◌, ℕ, zero, suc, ◌<◌, ◌≤◌, true, List, [], ◌∷◌, length, All, arith}
use Rattle.std.specs.List.{list_all}
use Rattle.std.proofs.lemmas.Bool.Decides.{nat_tests}
use Rattle.std.proofs.lemmas.List.Elements.{All-nil, All-cons, All-head, All-tail}
use Rattle.rl_base.proofs.Tests.{both, true_lt}
use Rattle.rl_base.specs.declared.refusal.Refusal.{Refusal}
use Rattle.rl_base.specs.declared.refusal.Refusal.TheVariants.{Locked, Changed}
use Rattle.rl_value.specs.Names.{is_name, is_name_byte}
use Rattle.rl_value.specs.Tables.{Table, IsTable, name_of}
use Rattle.rl_tables.specs.Numbers.{sizes_of, place_of}
use Rattle.rl_worker.specs.Told.{record_in}
use Rattle.rl_report.specs.Forms.{IsWord, IsEffect}
use Rattle.rl_world.specs.Reported.{refused_line}

abbrev IsInWord : ℕ → Type 0
IsInWord b = (33 ≤ b) × (b ≤ 126)

name_byte : (b : ℕ) → is_name_byte b ≡ true → IsInWord b
name_byte b h = (low b h, high b h)
  where
    low : (b : ℕ) → is_name_byte b ≡ true → 33 ≤ b
    low b h = grind (arith, nat_tests)

    high : (b : ℕ) → is_name_byte b ≡ true → b ≤ 126
    high b h = grind (arith, nat_tests)

name_bytes : (word : List ℕ) → list_all is_name_byte word ≡ true → All IsInWord word
name_bytes [] h = All-nil IsInWord
name_bytes (b ∷ word) h =
    let e = both (is_name_byte b) (list_all is_name_byte word) h in
    All-cons IsInWord b word (name_byte b e.0) (name_bytes word e.1)

name_is_word : (word : List ℕ) → is_name word ≡ true → IsWord word
name_is_word word h =
    let whole = both _ _ h in
    let sizes = both _ _ (both _ _ whole.0).0 in
    (true_lt 0 (length word) sizes.0, name_bytes word whole.1)

-- the name of a table that is there
pub name_of_word : (tables : List Table) (t : ℕ) → All IsTable tables → t < length tables → IsWord (name_of tables t)
name_of_word [] t h there = absurd (omega arith)
name_of_word (x ∷ tables) zero h there = name_is_word x.name (All-head IsTable x tables h).named
name_of_word (x ∷ tables) (suc t) h there = name_of_word tables t (All-tail IsTable x tables h) (omega arith)

-- a refused attempt has the name of its table
pub refused_effect : (tables : List Table) (e w i : ℕ) (f : Refusal) → All IsTable tables
    → (place_of (sizes_of tables) (record_in f)).0 < length tables → IsEffect (refused_line tables e w i f)
refused_effect tables e w i (Locked r word) h there = name_of_word tables _ h there
refused_effect tables e w i (Changed r seen found) h there = name_of_word tables _ h there
