-- What a leader does with an Ack, step by step. No public contract cites it.
use Rattle.std.specs.Prelude.{◌≡◌, ◌≤◌, ⊤, ℕ, ◌-◌, List, [], length, if◌then◌else◌, Option, Ok, slice_set}
use Rattle.rl_msg.specs.declared.msg.Msg.{Msg}
use Rattle.rl_paxos.specs.Leaders.{with_ack}
use Rattle.rl_txn.specs.declared.item.Item.{Item}
use Rattle.rl_worker.specs.Acts.{Core}
use Rattle.rl_nodes.specs.Answers.{Did, sending, quiet}
use Rattle.rl_nodes.specs.Handles.{counts_ack, opens, releases}
use Rattle.rl_nodes.specs.Nodes.{Lead, NodeState, Part, Leads, has_opened, marks_are_acknowledged}
use Rattle.rl_nodes.specs.Setups.{Setup}
use Rattle.rl_node.specs.Leading.{stream_of}
use Rattle.rl_node.specs.Leads.{LeadDid}
use Rattle.rl_node.specs.Outs.{Adds}
use Rattle.rl_node.specs.Standing.{HasWorksOf, lead_with}
use Rattle.rl_node.specs.declared.answer.Out.{Out}
use Rattle.rl_node.specs.declared.answer.Sent.{Sent}
use Rattle.rl_node.specs.declared.part.Lead as leads
use Rattle.rl_node.specs.declared.part.Part as parts
use Rattle.rl_node.specs.declared.part.Part.TheVariants as part

-- what is due for an Ack at a leader
abbrev pub count_in : Setup → (a : ℕ) → NodeState → (s from len : ℕ) → Part → Did
count_in setup a x s from len (Leads lead) = counts_ack setup a x lead s from len
count_in setup a x s from len other = quiet x

abbrev pub count_due : Setup → (a : ℕ) → NodeState → (s from len : ℕ) → Did
count_due setup a x s from len = count_in setup a x s from len x.part

-- what follows where more is acknowledged than a history before
abbrev pub advanced : Setup → NodeState → (before : List Item) → Lead → List Msg → Did
advanced setup x before lead sends =
    if has_opened lead then releases x before lead sends
    else if marks_are_acknowledged lead then opens setup x lead sends
    else sending (record x { part = Leads lead }) sends

-- an Ack is of no more than the leader of its epoch has of the stream
abbrev pub IsWithinLead : parts.Part → (e s len : ℕ) → Type 0
IsWithinLead (part.Leads l) e s len = l.epoch ≡ e → len ≤ length (stream_of l s).log
IsWithinLead other e s len = ⊤

-- an Ack is counted in its stream
pub record HasCounted (old new : leads.Lead) (s from len : ℕ) : Type 0 where
  pub streams : new.streams.items ≡ slice_set old.streams.items (s - 1) (with_ack (stream_of old s) from len)
  pub same : new ≡ record old { streams = new.streams }

-- a leader whose history had so many items before went on: whatever it stood for, it did what was due
abbrev pub HasAdvanced : Setup → (old new : leads.Lead) → (sends : List Sent) → (told : ℕ) → Out → Type 0
HasAdvanced setup old new sends told out =
    (core : Option Core) (x : NodeState) (before : List Item) (messages : List Msg)
    → HasWorksOf setup old old.works core → length before ≡ told → Adds [] sends messages
    → LeadDid setup new x (Ok (advanced setup x before (lead_with old core) messages)) out
