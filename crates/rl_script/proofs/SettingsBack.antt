-- The lines of the settings are read as the settings again.
use Rattle.std.proofs.Common.{◌≡◌, ℕ, ◌+◌, ◌^◌, ◌<◌, ◌≤◌, ◌==◌, List, [], ◌∷◌, ◌++◌, All, length, map, replicate, true, false, None, Some, Ok, codes, refl, ap, sym, ◌∙◌, arith, append-nil, length-append}
use Rattle.std.specs.Prelude.{slice_index}
use Rattle.std.specs.Fmt.{decimal}
use Rattle.std.proofs.lemmas.Bool.Decides.{nat_tests}
use Rattle.std.proofs.lemmas.List.{append_assoc}
use Rattle.std.proofs.lemmas.List.Elements.{All-head, All-tail}
use Rattle.rl_base.specs.Results.{◌>>=◌}
use Rattle.rl_text.specs.Numbers.{IsWithin}
use Rattle.rl_events.proofs.ReadBack.{number_back, within_back}
use Rattle.rl_script.specs.declared.draft.Draft.{Draft}
use Rattle.rl_script.specs.declared.line.LineKind.TheVariants as line
use Rattle.rl_script.specs.declared.script.Script.{Script}
use Rattle.rl_script.specs.declared.settings.Settings.{Settings}
use Rattle.rl_script.specs.declared.settings.SettingWord.{SettingWord}
use Rattle.rl_script.specs.declared.settings.SettingWord.TheVariants as word
use Rattle.rl_script.specs.Problems.{as_problem}
use Rattle.rl_script.specs.Fits.{ScriptFits}
use Rattle.rl_script.specs.Lines.{line_kind}
use Rattle.rl_script.specs.Printed.{setting_lines, stop_line}
use Rattle.rl_script.specs.Sections.{is_settings}
use Rattle.rl_events.specs.Words.{within}
use Rattle.rl_script.specs.Read.{opening_draft, read_words, with_settings}
use Rattle.rl_script.specs.Settings.{no_settings, given, once, one_more, with_setting, workers_of}
use Rattle.rl_script.proofs.LinesBack.{reads, kind_line, no_lines, one_line}

setting_line : (draft : Draft) (name value : List ℕ) (which : SettingWord) (settings : Settings) → (slice_index name 0 == 35) ≡ false → line_kind draft.section name ≡ Some (line.Setting which) → is_settings draft.section ≡ true → with_setting draft.settings which value ≡ Ok settings → read_words draft (name ∷ value ∷ []) ≡ Ok (with_settings draft settings)
setting_line draft name value which settings no_comment is first set =
    kind_line draft name (value ∷ []) (line.Setting which) no_comment is first ∙ ap (λ r. as_problem r >>= λ settings. Ok (with_settings draft settings)) set

-- stops

stop_set : (s : Settings) (d : ℕ) → IsWithin 1 1000000 d → length s.stops < 63 → with_setting s word.Stop (decimal d) ≡ Ok (record s { stops = s.stops ++ d ∷ [] })
unfolding with_setting
stop_set s d there few =
    let room : one_more s.stops d ≡ Ok (s.stops ++ d ∷ []) = grind (arith, nat_tests) in
    ap (λ r. (r >>= one_more s.stops) >>= λ stops. Ok (record s { stops = stops })) (within_back 1 1000000 d there.0 there.1 (omega (arith, there.1)))
    ∙ ap (λ r. r >>= λ stops. Ok (record s { stops = stops })) room

stops_back : (draft : Draft) (stops : List ℕ) → is_settings draft.section ≡ true → draft.lists ≡ replicate (workers_of draft.settings) [] → All (IsWithin 1 1000000) stops → length draft.settings.stops + length stops ≤ 63
    → reads draft (map stop_line stops) ≡ Ok (record draft { settings = record draft.settings { stops = draft.settings.stops ++ stops } })
stops_back draft [] first empty all few = no_lines draft ∙ ap (λ stops. Ok (record draft { settings = record draft.settings { stops = stops } })) (sym (append-nil draft.settings.stops))
stops_back draft (d ∷ stops) first empty all few =
    let settings : Settings = record draft.settings { stops = draft.settings.stops ++ d ∷ [] } in
    let next : Draft = with_settings draft settings in
    let room : length settings.stops + length stops ≤ 63 = omega (arith, length-append draft.settings.stops (d ∷ [])) in
    one_line draft next (stop_line d) (map stop_line stops) (setting_line draft (codes "stop") (decimal d) word.Stop settings refl refl first (stop_set draft.settings d (All-head (IsWithin 1 1000000) d stops all) (omega arith)))
    ∙ stops_back next stops first refl (All-tail (IsWithin 1 1000000) d stops all) room
    ∙ ap (λ stops. Ok (record draft { settings = record draft.settings { stops = stops }; lists = replicate (workers_of draft.settings) [] })) (append_assoc draft.settings.stops (d ∷ []) stops)
    ∙ ap (λ lists. Ok (record draft { settings = record draft.settings { stops = draft.settings.stops ++ d ∷ stops }; lists = lists })) (sym empty)

-- the settings that are given once

given_back : (low high n : ℕ) → IsWithin low high n → n < 2 ^ 64 → given (within low high) None (decimal n) ≡ Ok (Some n)
given_back low high n there small = ap (λ r. r >>= λ n. once None n) (within_back low high n there.0 there.1 small)

nodes_set : (s : Settings) (n : ℕ) → s.nodes ≡ None → IsWithin 1 7 n → with_setting s word.Nodes (decimal n) ≡ Ok (record s { nodes = Some n })
unfolding with_setting
nodes_set s n new there = rw new (ap (λ r. r >>= λ nodes. Ok (record s { nodes = nodes })) (given_back 1 7 n there (omega (arith, there.1))))

workers_set : (s : Settings) (n : ℕ) → s.workers ≡ None → IsWithin 1 16 n → with_setting s word.Workers (decimal n) ≡ Ok (record s { workers = Some n })
unfolding with_setting
workers_set s n new there = rw new (ap (λ r. r >>= λ workers. Ok (record s { workers = workers })) (given_back 1 16 n there (omega (arith, there.1))))

batch_set : (s : Settings) (n : ℕ) → s.batch ≡ None → IsWithin 1 64 n → with_setting s word.Batch (decimal n) ≡ Ok (record s { batch = Some n })
unfolding with_setting
batch_set s n new there = rw new (ap (λ r. r >>= λ batch. Ok (record s { batch = batch })) (given_back 1 64 n there (omega (arith, there.1))))

loss_set : (s : Settings) (n : ℕ) → s.loss ≡ None → n ≤ 999 → with_setting s word.Loss (decimal n) ≡ Ok (record s { loss = Some n })
unfolding with_setting
loss_set s n new there = rw new (ap (λ r. r >>= λ loss. Ok (record s { loss = loss })) (given_back 0 999 n (omega arith, there) (omega arith)))

seed_set : (s : Settings) (n : ℕ) → s.seed ≡ None → n < 2 ^ 64 → with_setting s word.Seed (decimal n) ≡ Ok (record s { seed = Some n })
unfolding with_setting
seed_set s n new there =
    rw new (ap (λ r. (r >>= λ n. once None n) >>= λ seed. Ok (record s { seed = seed })) (number_back n there))

-- all of them
abbrev pub all_settings : Script → Settings
all_settings script = record { nodes = Some script.nodes; workers = Some script.workers; batch = Some script.batch; loss = Some script.loss; seed = Some script.seed; stops = script.stops }

pub settings_back : (script : Script) → ScriptFits script → reads opening_draft (setting_lines script) ≡ Ok (with_settings opening_draft (all_settings script))
settings_back script fits =
    let s1 : Settings = record no_settings { nodes = Some script.nodes } in
    let s2 : Settings = record s1 { workers = Some script.workers } in
    let s3 : Settings = record s2 { batch = Some script.batch } in
    let s4 : Settings = record s3 { loss = Some script.loss } in
    let s5 : Settings = record s4 { seed = Some script.seed } in
    one_line opening_draft (with_settings opening_draft s1) _ _ (setting_line opening_draft (codes "nodes") (decimal script.nodes) word.Nodes s1 refl refl refl (nodes_set no_settings script.nodes refl fits.nodes))
    ∙ one_line (with_settings opening_draft s1) (with_settings opening_draft s2) _ _ (setting_line (with_settings opening_draft s1) (codes "workers") (decimal script.workers) word.Workers s2 refl refl refl (workers_set s1 script.workers refl fits.workers))
    ∙ one_line (with_settings opening_draft s2) (with_settings opening_draft s3) _ _ (setting_line (with_settings opening_draft s2) (codes "batch") (decimal script.batch) word.Batch s3 refl refl refl (batch_set s2 script.batch refl fits.batch))
    ∙ one_line (with_settings opening_draft s3) (with_settings opening_draft s4) _ _ (setting_line (with_settings opening_draft s3) (codes "loss") (decimal script.loss) word.Loss s4 refl refl refl (loss_set s3 script.loss refl fits.loss))
    ∙ one_line (with_settings opening_draft s4) (with_settings opening_draft s5) _ _ (setting_line (with_settings opening_draft s4) (codes "seed") (decimal script.seed) word.Seed s5 refl refl refl (seed_set s4 script.seed refl fits.seed))
    ∙ stops_back (with_settings opening_draft s5) script.stops refl refl fits.stops (omega (arith, fits.few_stops))
