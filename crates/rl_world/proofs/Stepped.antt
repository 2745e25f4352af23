-- A step of a worker is told as the world has it.
use Rattle.std.proofs.Common.{◌≡◌, ℕ, ◌+◌, ◌-◌, ◌^◌, ◌<◌, ◌≤◌, List, ◌++◌, map, get_or, sum_by, All, Option, None, Result, Ok, Err, refl, sym, ap, subst, ◌∙◌, append-nil, append_assoc, option_to_list, arith}
use Rattle.std.specs.Prelude.{IfOk, IfErr, OnOk}
use Rattle.std.specs.List.{flat_map}
use Rattle.std.specs.Option.{option_map}
use Rattle.std.proofs.lemmas.List.Elements.{All-append}
use Rattle.std.proofs.lemmas.Grind.{flat_map-append}
use Rattle.rl_base.specs.declared.limit.TheConstants.{BYTES, EVENTS}
use Rattle.rl_events.specs.Fits.{count_of}
use Rattle.rl_net.specs.Messages.{bytes_sent}
use Rattle.rl_nodes.specs.Answers.{Did}
use Rattle.rl_nodes.specs.Works.{next_seq, steps}
use Rattle.rl_nodes.specs.World.{World, Line, MessageDenied, node_of, opened_line, refused_line, attempt_of, lines_of, after_doing, after_answer}
use Rattle.rl_node.specs.Doing.{Does}
use Rattle.rl_node.specs.Moves.{line_of, Tells}
use Rattle.rl_node.specs.Outs.{IsOut}
use Rattle.rl_node.specs.Seqs.{seq_of}
use Rattle.rl_node.specs.SetupOf.{setup_of}
use Rattle.rl_node.specs.Standing.{Stands}
use Rattle.rl_node.specs.declared.answer.Out.{Out}
use Rattle.rl_node.specs.declared.answer.Stepped.{Stepped}
use Rattle.rl_node.specs.declared.node.Node.{Node}
use Rattle.rl_node.proofs.LeadersTurns.{seq_is}
use Rattle.rl_report.specs.Forms.{IsEffect}
use Rattle.rl_report.specs.declared.middle.Middle.{Middle}
use Rattle.rl_safe.specs.Laws.{SeqsAreFew}
use Rattle.rl_value.specs.Tables.{Table}
use Rattle.rl_world.specs.Moments.{HasRoom}
use Rattle.rl_world.specs.Refusing.{IsByBytes}
use Rattle.rl_world.specs.Reported.{line_reported}
use Rattle.rl_world.specs.Standing.{answers, IsNumberOf, IsSafe, StandsRun, HasRun, Tries}
use Rattle.rl_world.specs.Stepping.{HasTakenStep}
use Rattle.rl_world.specs.Telling.{kept, message_of, StandsTold}
use Rattle.rl_world.specs.Worlds.{limit_of, IsCause}
use Rattle.rl_world.specs.declared.run.Run.{Run}
use Rattle.rl_world.specs.declared.told.Told.{Told}
use Rattle.rl_world.specs.declared.world_error.WorldError.{WorldError}
use Rattle.rl_world.specs.declared.world_error.WorldError.TheVariants.{Limit, Memory}
use Rattle.rl_world.proofs.Answering.{with_node, node_read}
use Rattle.rl_world.proofs.Moments.{as_run}
use Rattle.rl_world.proofs.Sending.{within, past}
use Rattle.rl_world.proofs.Standing.{node_changed}
use Rattle.rl_world.proofs.Taking.{net_after, told_after}
use Rattle.rl_world.proofs.Working.{nothing_gained, steps_release}

-- ---- seqs ----

-- as long as the events of a run count few enough, a node has a seq left to draw
pub seq_left : SeqsAreFew → (r : Run) (more a : ℕ) (n : Node) → IsSafe r → HasRoom r more → IsNumberOf (setup_of r.setup) a → n ≡ get_or r.nodes.items (a - 1) n
    → seq_of n < 2 ^ 40 - 1
seq_left seqs r more a n safe room is read =
    let setup = setup_of r.setup in
    let w = room.moment.world in
    let next : seq_of n ≡ next_seq (node_of setup w a).part =
    seq_is setup safe.fits a n (answers (node_of setup w a)) (node_read r w a n is room.stands read) in
    let few : next_seq (node_of setup w a).part ≤ 2 + sum_by count_of room.moment.events = seqs (as_run setup safe.fits room.moment) a in
    few_enough (seq_of n) (next_seq (node_of setup w a).part) (sum_by count_of room.moment.events) more next few room.room
  where
    few_enough : (seq next sum more : ℕ) → seq ≡ next → next ≤ 2 + sum → sum + more ≤ EVENTS → seq < 2 ^ 40 - 1
    few_enough seq next sum more e few room = omega arith

-- ---- what is told ----

-- what a node does, but that it refuses no attempt
abbrev unrefused : Did → Did
unrefused did = record did { refusal = None }

-- the line of a refused attempt is the last
module _ (a number : ℕ) (did : Did) where
  abbrev told_lines : List Line
  told_lines = option_to_list (option_map (MessageDenied number a) did.denied)

  abbrev opened_lines : List Line
  opened_lines = option_to_list (option_map (opened_line a) did.opened)

  abbrev refused_lines : List Line
  refused_lines = option_to_list (option_map refused_line (attempt_of did))

  lines_split : lines_of a number (unrefused did) ++ refused_lines ≡ lines_of a number did
  lines_split = ap (λ xs. xs ++ refused_lines) (append-nil (told_lines ++ opened_lines))

module _ (r : Run) (w : World) (a : ℕ) (n : Node) (did : Did) (out : Out) (line : Option Middle) (safe : IsSafe r) (is : IsNumberOf (setup_of r.setup) a)
    (st : StandsRun r w) (at : Stands (setup_of r.setup) a n (answers did.node)) (told_out : IsOut did out) (no_release : did.release ≡ None)
    (lines : option_to_list line ≡ flat_map (line_reported (setup_of r.setup).program.tables) (refused_lines a 0 did))
    (effects : All IsEffect (option_to_list line)) where
  abbrev tables : List Table
  tables = (setup_of r.setup).program.tables

  unrefused_out : IsOut (unrefused did) out
  unrefused_out = record {
    sends = told_out.sends;
    in_range = told_out.in_range;
    opened = told_out.opened;
    denied = told_out.denied;
    released = told_out.released;
  }

  -- after a worker made a step
  stepped_told : (new : Told) → HasTakenStep r.told new a out line → StandsTold tables new (after_doing w a 0 did)
  stepped_told new h =
      let t = h.taken in
      let base = told_after tables w a 0 (unrefused did) out r.told t st.told unrefused_out told_out.in_range refl (nothing_gained w did.release no_release) h.took in
      let more = option_to_list line in
      let before = lines_of a 0 (unrefused did) in
      let last = refused_lines a 0 did in
      let all : t.lines ++ more ≡ flat_map (line_reported tables) (w.lines ++ lines_of a 0 did) =
      ap (λ xs. xs ++ more) base.lines ∙ ap (λ xs. flat_map (line_reported tables) (w.lines ++ before) ++ xs) lines
      ∙ sym (flat_map-append (line_reported tables) (w.lines ++ before) last)
      ∙ ap (flat_map (line_reported tables)) (append_assoc w.lines before last ∙ ap (λ xs. w.lines ++ xs) (lines_split a 0 did)) in
      subst (λ (told : Told). StandsTold tables told (after_doing w a 0 did)) (sym h.now)
      (record {
        net = base.net;
        in_range = base.in_range;
        few = base.few;
        count = base.count;
        released = base.released;
        lines = all;
        effects = All-append IsEffect t.lines more base.effects effects;
      })

  stepped : (new : Told) → HasTakenStep r.told new a out line → HasRun (with_node r a n new) (after_answer w a 0 (Ok did))
  stepped new h =
      let told = stepped_told new h in
      let few : bytes_sent (map kept (after_doing w a 0 did).sent) ≤ BYTES = subst (λ (m : _). bytes_sent m ≤ BYTES) told.net told.few in
      record {
        world = after_doing w a 0 did;
        is = within (after_doing w a 0 did) few;
        stands = record {
          nodes = node_changed (setup_of r.setup) r.nodes.items w (after_doing w a 0 did) a n did.node safe.count is st.nodes at refl;
          told = told;
        };
      }

  -- or passed the limit of bytes
  step_over : (error : WorldError) → IsByBytes (BYTES < bytes_sent (r.told.net ++ map message_of out.sends)) error → IsCause (after_answer w a 0 (Ok did)) error
  step_over (Limit name limit) why =
      let net = net_after tables w a 0 (unrefused did) out r.told r.told st.told unrefused_out told_out.in_range refl (nothing_gained w did.release no_release) in
      let many : BYTES < bytes_sent (map kept (after_doing w a 0 did).sent) = subst (λ (m : _). BYTES < bytes_sent m) net why.2 in
      (past (after_doing w a 0 did) many ∙ ap Err (sym why.0), why.1 ∙ ap limit_of (sym why.0))
  step_over Memory why = tt

-- what a node of a world answered at a step has become what was due
module _ (r : Run) (a : ℕ) (n : Node) (told : Told) (worker : ℕ) (s : Stepped) (line : Option Middle) (safe : IsSafe r) (is : IsNumberOf (setup_of r.setup) a)
    (lines : option_to_list line ≡ flat_map (line_reported (setup_of r.setup).program.tables) (option_to_list (line_of worker s)))
    (effects : All IsEffect (option_to_list line)) where
  pub stepped_at : (w : World) → StandsRun r w → (result : Result (Unit {0}) WorldError)
      → Does (setup_of r.setup) a n (answers (node_of (setup_of r.setup) w a)) (steps (setup_of r.setup) a (node_of (setup_of r.setup) w a) worker) s.out
      → Tells (setup_of r.setup) a (node_of (setup_of r.setup) w a) worker s
      → OnOk result (HasTakenStep r.told told a s.out line) → IfErr result (IsByBytes (BYTES < bytes_sent (r.told.net ++ map message_of s.out.sends)))
      → Tries (with_node r a n told) (after_answer w a 0 (steps (setup_of r.setup) a (node_of (setup_of r.setup) w a) worker)) result
  stepped_at w st result d tells ok err =
      let setup = setup_of r.setup in
      let x = node_of setup w a in
      let new : d.new ≡ answers d.did.node = λ i. record { node = d.done.node i; failed = d.done.can i } in
      let at : Stands setup a n (answers d.did.node) = subst (Stands setup a n) new d.stands in
      let release : d.did.release ≡ None = steps_release setup a x worker d.did d.done.due in
      let line_is : option_map refused_line (attempt_of d.did) ≡ line_of worker s =
      subst (λ answer. IfOk answer (λ (did : Did). option_map refused_line (attempt_of did) ≡ line_of worker s)) d.done.due tells.line in
      let told_lines = lines ∙ ap (λ o. flat_map (line_reported setup.program.tables) (option_to_list o)) (sym line_is) in
      subst (λ answer. Tries (with_node r a n told) (after_answer w a 0 answer) result) (sym d.done.due)
      (by_result w d.did st at d.hands_out release told_lines result ok err)
    where
      by_result : (w : World) (did : Did) → StandsRun r w → Stands (setup_of r.setup) a n (answers did.node) → IsOut did s.out → did.release ≡ None
          → option_to_list line ≡ flat_map (line_reported (setup_of r.setup).program.tables) (refused_lines a 0 did)
          → (result : Result (Unit {0}) WorldError) → OnOk result (HasTakenStep r.told told a s.out line)
          → IfErr result (IsByBytes (BYTES < bytes_sent (r.told.net ++ map message_of s.out.sends)))
          → Tries (with_node r a n told) (after_answer w a 0 (Ok did)) result
      by_result w did st at out release told_lines (Ok u) ok err = stepped r w a n did s.out line safe is st at out release told_lines effects told ok
      by_result w did st at out release told_lines (Err error) ok err = step_over r w a n did s.out line safe is st at out release told_lines effects error err
