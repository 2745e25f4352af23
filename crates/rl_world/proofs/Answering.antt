-- What a run stands for after one of its nodes has answered.
use Rattle.std.proofs.Common.{◌≡◌, ℕ, ◌-◌, ◌<◌, ◌≤◌, Bool, true, false, cond, [], ◌++◌, length, map, set, get_or, None, Result, Ok, Err, refl, sym, ap, subst, ◌∙◌, append-nil}
use Rattle.std.specs.Prelude.{IfOk, IfErr, OnOk}
use Rattle.std.specs.Vec.{with_item}
use Rattle.std.proofs.lemmas.List.{set-get_or, length-set}
use Rattle.std.proofs.lemmas.List.Elements.{All-nil}
use Rattle.rl_base.specs.declared.limit.TheConstants.{BYTES}
use Rattle.rl_election.specs.World.{State, is_up}
use Rattle.rl_msg.specs.Ranges.{MsgInRange}
use Rattle.rl_net.specs.Messages.{bytes_sent}
use Rattle.rl_nodes.specs.declared.node_error.NodeError.{NodeError}
use Rattle.rl_nodes.specs.declared.node_error.NodeError.TheVariants as node
use Rattle.rl_nodes.specs.Answers.{Did, Answer, sending, quiet}
use Rattle.rl_nodes.specs.Calls.{Standing}
use Rattle.rl_nodes.specs.Elections.{stands, elects, ticks, sends_again}
use Rattle.rl_nodes.specs.Events.{does_up, does_where}
use Rattle.rl_nodes.specs.Nodes.{NodeState, new_node}
use Rattle.rl_nodes.specs.Setups.{Setup}
use Rattle.rl_nodes.specs.World.{World, Ran, node_of, after_doing, after_answer}
use Rattle.rl_node.specs.Doing.{Does, Refuses}
use Rattle.rl_node.specs.Outs.{IsOut}
use Rattle.rl_node.specs.SetupOf.{setup_of}
use Rattle.rl_node.specs.Standing.{Stands, IsNode}
use Rattle.rl_node.specs.declared.answer.Out.{Out}
use Rattle.rl_node.specs.declared.node.Node.{Node}
use Rattle.rl_world.specs.Finishing.{HasFinished, HasNotFinished}
use Rattle.rl_world.specs.Refusing.{IsByBytes}
use Rattle.rl_world.specs.Releasing.{GainSuffices}
use Rattle.rl_world.specs.Standing.{answers, IsNumberOf, StandNodes, IsSafe, StandsRun, HasRun, Tries, TriesRun}
use Rattle.rl_world.specs.Worlds.{limit_of, IsCause}
use Rattle.rl_world.specs.Telling.{kept, message_of, HasTaken, StandsTold}
use Rattle.rl_world.specs.declared.run.Run.{Run}
use Rattle.rl_world.specs.declared.told.Told.{Told}
use Rattle.rl_world.specs.declared.world_error.WorldError.{WorldError}
use Rattle.rl_world.specs.declared.world_error.WorldError.TheVariants.{Limit, Memory}
use Rattle.rl_world.proofs.Sending.{within, past}
use Rattle.rl_world.proofs.Standing.{node_changed, still_nodes}
use Rattle.rl_world.proofs.Taking.{net_after, told_after}

-- a run with another node a, and other things told
abbrev pub with_node : Run → (a : ℕ) → Node → Told → Run
with_node r a n told = record { setup = r.setup; layout = r.layout; nodes = with_item r.nodes (a - 1) n; told = told }

-- a node that is read at its place
pub node_read : (r : Run) (w : World) (a : ℕ) (n : Node) → IsNumberOf (setup_of r.setup) a → StandsRun r w → n ≡ get_or r.nodes.items (a - 1) n
    → Stands (setup_of r.setup) a n (answers (node_of (setup_of r.setup) w a))
node_read r w a n is st read =
    subst (λ m. Stands (setup_of r.setup) a m (answers (node_of (setup_of r.setup) w a))) (sym read) (st.nodes.each a n is)

pub safe_read : (r : Run) (a : ℕ) (n : Node) → IsNumberOf (setup_of r.setup) a → IsSafe r → n ≡ get_or r.nodes.items (a - 1) n → IsNode (setup_of r.setup) n
safe_read r a n is safe read = subst (IsNode (setup_of r.setup)) (sym read) (safe.each a n is)

-- a run stays safe
pub safe_with : (r : Run) (a : ℕ) (n : Node) (told : Told) → IsSafe r → IsNumberOf (setup_of r.setup) a → IsNode (setup_of r.setup) n
    → bytes_sent told.net ≤ BYTES → told.sent ≡ length told.net → IsSafe (with_node r a n told)
safe_with r a n told safe is here few sent = record {
  fits = safe.fits;
  layout = safe.layout;
  count = length-set r.nodes.items (a - 1) n ∙ safe.count;
  each = still_nodes (setup_of r.setup) r.nodes.items a n safe.count is here safe.each;
  few = few;
  sent = sent;
}

-- a run that is as before stands for the same world
pub same_run : (r : Run) (w : World) (a : ℕ) (n : Node) → StandsRun r w → n ≡ get_or r.nodes.items (a - 1) n → StandsRun (with_node r a n r.told) w
same_run r w a n st read =
    let same : set r.nodes.items (a - 1) n ≡ r.nodes.items = ap (set r.nodes.items (a - 1)) read ∙ set-get_or r.nodes.items (a - 1) n in
    record { nodes = subst (λ xs. StandNodes (setup_of r.setup) xs w) (sym same) st.nodes; told = st.told }

-- nodes of the same world, where one stands for what it was
same_nodes : (r : Run) (w : World) (a : ℕ) (n : Node) → IsSafe r → IsNumberOf (setup_of r.setup) a → StandsRun r w
    → Stands (setup_of r.setup) a n (answers (node_of (setup_of r.setup) w a)) → StandNodes (setup_of r.setup) (set r.nodes.items (a - 1) n) w
same_nodes r w a n safe is st at =
    let setup = setup_of r.setup in
    node_changed setup r.nodes.items w w a n (node_of setup w a) safe.count is st.nodes at (sym (set-get_or w.nodes (a - 1) (new_node setup)))

module _ (r : Run) (w : World) (a number : ℕ) (n : Node) (did : Did) (out : Out) (safe : IsSafe r) (is : IsNumberOf (setup_of r.setup) a)
    (st : StandsRun r w) (at : Stands (setup_of r.setup) a n (answers did.node)) (told_out : IsOut did out)
    (no_refusal : did.refusal ≡ None) (suffices : GainSuffices w.released did.release) where
  -- after a node did something
  done_run : (told : Told) → HasTaken r.told told number a out → StandsRun (with_node r a n told) (after_doing w a number did)
  done_run told taken = record {
    nodes = node_changed (setup_of r.setup) r.nodes.items w (after_doing w a number did) a n did.node safe.count is st.nodes at refl;
    told = told_after (setup_of r.setup).program.tables w a number did out r.told told st.told told_out told_out.in_range no_refusal suffices taken;
  }

  pub done : (told : Told) → HasTaken r.told told number a out → HasRun (with_node r a n told) (after_answer w a number (Ok did))
  done told taken =
      let after = done_run told taken in
      let few : bytes_sent (map kept (after_doing w a number did).sent) ≤ BYTES = subst (λ (m : _). bytes_sent m ≤ BYTES) after.told.net taken.few in
      record { world = after_doing w a number did; is = within (after_doing w a number did) few; stands = after }

  -- or passed the limit of bytes
  pub over : (error : WorldError) → IsByBytes (BYTES < bytes_sent (r.told.net ++ map message_of out.sends)) error → IsCause (after_answer w a number (Ok did)) error
  over (Limit name limit) why =
      let net = net_after (setup_of r.setup).program.tables w a number did out r.told r.told st.told told_out told_out.in_range no_refusal suffices in
      let many : BYTES < bytes_sent (map kept (after_doing w a number did).sent) = subst (λ (m : _). BYTES < bytes_sent m) net why.2 in
      (past (after_doing w a number did) many ∙ ap Err (sym why.0), why.1 ∙ ap limit_of (sym why.0))
  over Memory why = tt

-- a node that does nothing but change
module _ (r : Run) (a : ℕ) (n : Node) (change : NodeState → NodeState) (safe : IsSafe r) (is : IsNumberOf (setup_of r.setup) a) where
  pub changes : (test : State → Bool) (w : World) → StandsRun r w → test (node_of (setup_of r.setup) w a).state ≡ true
      → Stands (setup_of r.setup) a n (answers (change (node_of (setup_of r.setup) w a)))
      → HasRun (with_node r a n r.told) (does_where test (setup_of r.setup) a (λ x. Ok (quiet (change x))) w)
  changes test w st passes at =
      let x = node_of (setup_of r.setup) w a in
      let did : Did = quiet (change x) in
      let out : Out = record { sends = []; opened = None; denied = None; released = [] } in
      let is_out : IsOut did out = record { sends = refl; in_range = All-nil MsgInRange; opened = refl; denied = refl; released = refl } in
      let taken : HasTaken r.told r.told 0 a out = record {
        net = sym (append-nil r.told.net);
        few = safe.few;
        count = safe.sent;
        released = sym (append-nil r.told.released);
        lines = sym (append-nil r.told.lines);
      } in
      let after = done r w a 0 n did out safe is st at is_out refl tt r.told taken in
      record { world = after.world; is = ap (λ b. cond b (after_answer w a 0 (Ok did)) (Ok w)) passes ∙ after.is; stands = after.stands }

-- where its state fails the test nothing is done
pub nothing_done : (test : State → Bool) (r : Run) (a : ℕ) (n : Node) (due : NodeState → Answer) (w : World) → StandsRun r w
    → n ≡ get_or r.nodes.items (a - 1) n → test (node_of (setup_of r.setup) w a).state ≡ false
    → HasRun (with_node r a n r.told) (does_where test (setup_of r.setup) a due w)
nothing_done test r a n due w st read fails = record {
  world = w;
  is = ap (λ b. cond b (after_answer w a 0 (due (node_of (setup_of r.setup) w a))) (Ok w)) fails;
  stands = same_run r w a n st read;
}

-- ---- answers ----

-- what is done refuses no attempt, and what it releases is what its history gained
abbrev pub TellsPlainly : World → Answer → Type 0
TellsPlainly w answer = (did : Did) → answer ≡ Ok did → (did.refusal ≡ None) × GainSuffices w.released did.release

module _ (r : Run) (a number : ℕ) (n : Node) (told : Told) (due : NodeState → Answer) (safe : IsSafe r) (is : IsNumberOf (setup_of r.setup) a) where
  abbrev Ans : World → Answer
  Ans w = due (node_of (setup_of r.setup) w a)

  abbrev Old : World → Standing
  Old w = answers (node_of (setup_of r.setup) w a)

  -- it did what was due
  did_it : (w : World) (out : Out) → StandsRun r w → TellsPlainly w (Ans w) → Does (setup_of r.setup) a n (Old w) (Ans w) out
      → HasTaken r.told told number a out → HasRun (with_node r a n told) (after_answer w a number (Ans w))
  did_it w out st plain d taken =
      let new : d.new ≡ answers d.did.node = λ i. record { node = d.done.node i; failed = d.done.can i } in
      let at : Stands (setup_of r.setup) a n (answers d.did.node) = subst (Stands (setup_of r.setup) a n) new d.stands in
      let tells = plain d.did d.done.due in
      subst (λ answer. HasRun (with_node r a n told) (after_answer w a number answer)) (sym d.done.due)
      (done r w a number n d.did out safe is st at d.hands_out tells.0 tells.1 told taken)

  over_it : (w : World) (out : Out) (error : WorldError) → StandsRun r w → TellsPlainly w (Ans w) → Does (setup_of r.setup) a n (Old w) (Ans w) out
      → IsByBytes (BYTES < bytes_sent (r.told.net ++ map message_of out.sends)) error → IsCause (after_answer w a number (Ans w)) error
  over_it w out error st plain d why =
      let new : d.new ≡ answers d.did.node = λ i. record { node = d.done.node i; failed = d.done.can i } in
      let at : Stands (setup_of r.setup) a n (answers d.did.node) = subst (Stands (setup_of r.setup) a n) new d.stands in
      let tells = plain d.did d.done.due in
      subst (λ answer. IsCause (after_answer w a number answer) error) (sym d.done.due)
      (over r w a number n d.did out safe is st at d.hands_out tells.0 tells.1 error why)

  -- it was due to do nothing
  kept_run : (w : World) (f : NodeError) → StandsRun r w → Ans w ≡ Err f → after_answer w a number (Err f) ≡ Ok w
      → (new : Standing) → Stands (setup_of r.setup) a n new → new ≡ Old w → told ≡ r.told → HasRun (with_node r a n told) (after_answer w a number (Ans w))
  kept_run w f st ans nothing new at same told_same = record {
    world = w;
    is = ap (after_answer w a number) ans ∙ nothing;
    stands = record {
      nodes = same_nodes r w a n safe is st (subst (Stands (setup_of r.setup) a n) same at);
      told = subst (λ t. StandsTold (setup_of r.setup).program.tables t w) (sym told_same) st.told;
    };
  }

  -- a refusal has become what was due
  pub refused_at : (w : World) → StandsRun r w → (f : NodeError) (result : Result (Unit {0}) WorldError)
      → Refuses (setup_of r.setup) a n (Old w) (Ans w) f
      → OnOk result (HasFinished r.told told number a (Err f)) → IfErr result (HasNotFinished r.told (Err f))
      → Tries (with_node r a n told) (after_answer w a number (Ans w)) result
  refused_at w st node.BadMessage (Ok u) f ok err = kept_run w node.BadMessage st f.refused.0 refl f.new f.stands f.refused.1 ok
  refused_at w st (node.NoEpoch p) (Ok u) f ok err = kept_run w (node.NoEpoch p) st f.refused.0 refl f.new f.stands f.refused.1 ok
  refused_at w st (node.StreamFull s) (Ok u) f ok err = absurd ok
  refused_at w st node.Memory (Ok u) f ok err = absurd ok
  refused_at w st node.BadMessage (Err error) f ok err = absurd err
  refused_at w st (node.NoEpoch p) (Err error) f ok err = absurd err
  refused_at w st (node.StreamFull s) (Err error) f ok err =
      subst (IsCause (after_answer w a number (Ans w))) (sym err) (ap (after_answer w a number) f.refused.0, refl)
  refused_at w st node.Memory (Err error) f ok err = subst (IsCause (after_answer w a number (Ans w))) (sym err) tt

  -- what a node of a world answered has become what was due
  pub answered_at : (w : World) → StandsRun r w → TellsPlainly w (Ans w) → (answer : Result Out NodeError) (result : Result (Unit {0}) WorldError)
      → IfOk answer (Does (setup_of r.setup) a n (Old w) (Ans w)) → IfErr answer (Refuses (setup_of r.setup) a n (Old w) (Ans w))
      → OnOk result (HasFinished r.told told number a answer) → IfErr result (HasNotFinished r.told answer)
      → Tries (with_node r a n told) (after_answer w a number (Ans w)) result
  answered_at w st plain (Ok out) (Ok u) does refuses ok err = did_it w out st plain does ok
  answered_at w st plain (Ok out) (Err error) does refuses ok err = over_it w out error st plain does err
  answered_at w st plain (Err f) result does refuses ok err = refused_at w st f result refuses ok err

  -- whatever world it was of
  pub answered : ((w : World) → StandsRun r w → TellsPlainly w (Ans w)) → (answer : Result Out NodeError) (result : Result (Unit {0}) WorldError)
      → ((w : World) → StandsRun r w → IfOk answer (Does (setup_of r.setup) a n (Old w) (Ans w)))
      → ((w : World) → StandsRun r w → IfErr answer (Refuses (setup_of r.setup) a n (Old w) (Ans w)))
      → OnOk result (HasFinished r.told told number a answer) → IfErr result (HasNotFinished r.told answer)
      → TriesRun r (with_node r a n told) (λ w. after_answer w a number (Ans w)) result
  answered plain answer result does refuses ok err w st = answered_at w st (plain w st) answer result (does w st) (refuses w st) ok err

-- the same where a node is asked because it is up
pub up_answered : (r : Run) (a : ℕ) (new : Run) (due : NodeState → Answer) (result : Result (Unit {0}) WorldError)
    → ((w : World) → StandsRun r w → is_up (node_of (setup_of r.setup) w a).state ≡ true)
    → TriesRun r new (λ w. after_answer w a 0 (due (node_of (setup_of r.setup) w a))) result → TriesRun r new (does_up (setup_of r.setup) a due) result
up_answered r a new due result up h w st =
    subst (λ (ran : Ran). Tries new ran result)
    (sym (ap (λ b. cond b (after_answer w a 0 (due (node_of (setup_of r.setup) w a))) (Ok w)) (up w st))) (h w st)

-- an election refuses no attempt, and releases nothing
pub election_plain : (setup : Setup) (a : ℕ) (x : NodeState) (w : World) → TellsPlainly w (elects setup a x)
election_plain setup a x w did e = go _ _ _ e
  where
    go : (b : Bool) (e' : ℕ) (f : NodeError) → cond b (Ok (stands setup a x e')) (Err f) ≡ Ok did → (did.refusal ≡ None) × GainSuffices w.released did.release
    go true e' f e =
        let same : stands setup a x e' ≡ did = cc in
        (ap (λ (d : Did). d.refusal) (sym same), subst (GainSuffices w.released) (ap (λ (d : Did). d.release) same) tt)
    go false e' f e = absurd cc

-- a node after a call, whatever it answered
pub node_after : (setup : Setup) (a : ℕ) (n : Node) (x : Standing) (due : Answer) (answer : Result Out NodeError)
    → IfOk answer (Does setup a n x due) → IfErr answer (Refuses setup a n x due) → IsNode setup n
node_after setup a n x due (Ok out) does refuses = (a, does.new, does.stands)
node_after setup a n x due (Err error) does refuses = (a, refuses.new, refuses.stands)

-- nor does what is sent again
pub tick_plain : (setup : Setup) (a : ℕ) (x : NodeState) (w : World) → TellsPlainly w (ticks setup a x)
tick_plain setup a x w did e =
    let same : sending x (sends_again setup a x.part) ≡ did = cc in
    (ap (λ (d : Did). d.refusal) (sym same), subst (GainSuffices w.released) (ap (λ (d : Did). d.release) same) tt)
