-- Messages that are sent, and why one is not.
use Rattle.std.proofs.Common.{◌≡◌, ℕ, ◌+◌, ◌<◌, ◌≤◌, List, [], ◌∷◌, ◌++◌, length, map, sum_by, All, Ok, Err, refl, sym, ap, subst, ◌∙◌, append_assoc, arith}
use Rattle.std.specs.Prelude.{cond}
use Rattle.std.proofs.lemmas.List.Elements.{All-nil, All-cons, All-head, All-tail}
use Rattle.std.proofs.lemmas.List.Sums.{sum_by-append, sum_by-cons, sum_by_push}
use Rattle.rl_base.proofs.Tests.{lt_true, lt_false}
use Rattle.rl_base.specs.declared.limit.LimitName.TheVariants.{Bytes}
use Rattle.rl_base.specs.declared.limit.TheConstants.{BYTES}
use Rattle.rl_msg.specs.declared.msg.Msg.{Msg}
use Rattle.rl_msg.specs.Parts.{head_of}
use Rattle.rl_msg.specs.Encoding.{msg_bytes}
use Rattle.rl_msg.specs.Ranges.{MsgInRange}
use Rattle.rl_net.specs.declared.message.Message.{Message}
use Rattle.rl_net.specs.declared.net_error.NetError.{NetError}
use Rattle.rl_net.specs.declared.net_error.NetError.TheVariants.{NetFull, Memory}
use Rattle.rl_net.specs.Messages.{new_message, bytes_sent}
use Rattle.rl_node.specs.declared.answer.Sent as out
use Rattle.rl_node.specs.Outs.{seen_sends}
use Rattle.rl_nodes.specs.Calls.{encoded}
use Rattle.rl_nodes.specs.World as world
use Rattle.rl_world.specs.Refusing.{error_of_net, IsByBytes}
use Rattle.rl_world.specs.Telling.{message_of, kept}

-- a message that the network does not take is one with which there are too many bytes
pub not_taken : (f : NetError) (sent rest : List Message) (m : Message)
    → ((n : ℕ) → f ≡ NetFull n → (n ≡ BYTES) × (BYTES < bytes_sent sent + length m.bytes))
    → IsByBytes (BYTES < bytes_sent (sent ++ m ∷ rest)) (error_of_net f)
not_taken (NetFull n) sent rest m why =
    let both = why n refl in
    let size : Message → ℕ = λ x. length x.bytes in
    let parts : bytes_sent ((sent ++ m ∷ []) ++ rest) ≡ bytes_sent (sent ++ m ∷ []) + bytes_sent rest = sum_by-append size (sent ++ m ∷ []) rest in
    let one : bytes_sent (sent ++ m ∷ []) ≡ bytes_sent sent + length m.bytes = sum_by_push size sent m in
    let joined : bytes_sent ((sent ++ m ∷ []) ++ rest) ≡ bytes_sent (sent ++ m ∷ rest) = ap (sum_by size) (append_assoc sent (m ∷ []) rest) in
    let over : BYTES < bytes_sent (sent ++ m ∷ rest) = omega (arith, both.1) in
    (refl, both.0, over)
not_taken Memory sent rest m why = tt

-- ---- what the network keeps of messages ----

-- a receiver and bytes as a message
abbrev of_pair : ℕ × List ℕ → Message
of_pair x = new_message x.0 x.1

of_seen : (xs : List out.Sent) → map message_of xs ≡ map of_pair (seen_sends xs)
of_seen [] = refl
of_seen (x ∷ xs) = ap (λ ys. message_of x ∷ ys) (of_seen xs)

of_encoded : (ms : List Msg) → map of_pair (map encoded ms) ≡ map kept (map world.new_sent ms)
of_encoded [] = refl
of_encoded (m ∷ ms) = ap (λ ys. new_message (head_of m).to (msg_bytes m) ∷ ys) (of_encoded ms)

-- the encodings of some messages, as they are kept
pub sends_kept : (xs : List out.Sent) (ms : List Msg) → seen_sends xs ≡ map encoded ms → map message_of xs ≡ map kept (map world.new_sent ms)
sends_kept xs ms e = of_seen xs ∙ ap (map of_pair) e ∙ of_encoded ms

-- messages in range stay so as they are sent
pub new_in_range : (ms : List Msg) → All MsgInRange ms → All (λ (m : world.Sent). MsgInRange m.message) (map world.new_sent ms)
new_in_range [] h = All-nil (λ (m : world.Sent). MsgInRange m.message)
new_in_range (m ∷ ms) h =
    All-cons (λ (m : world.Sent). MsgInRange m.message) (world.new_sent m) (map world.new_sent ms)
    (All-head MsgInRange m ms h) (new_in_range ms (All-tail MsgInRange m ms h))

-- the bytes that are kept are those of the world
pub bytes_kept : (sent : List world.Sent) → bytes_sent (map kept sent) ≡ world.bytes_sent sent
bytes_kept [] = refl
bytes_kept (m ∷ sent) =
    sum_by-cons (λ (x : Message). length x.bytes) (kept m) (map kept sent) ∙ ap (λ n. length (msg_bytes m.message) + n) (bytes_kept sent)
    ∙ sym (sum_by-cons (λ (x : world.Sent). length (msg_bytes x.message)) m sent)

-- within the limit of bytes, and past it
pub within : (w : world.World) → bytes_sent (map kept w.sent) ≤ BYTES → world.within_bytes w ≡ Ok w
within w few =
    ap (λ b. cond b (Err Bytes) (Ok w)) (lt_false BYTES (world.bytes_sent w.sent) (subst (λ n. n ≤ BYTES) (bytes_kept w.sent) few))

pub past : (w : world.World) → BYTES < bytes_sent (map kept w.sent) → world.within_bytes w ≡ Err Bytes
past w many =
    ap (λ b. cond b (Err Bytes) (Ok w)) (lt_true BYTES (world.bytes_sent w.sent) (subst (λ n. BYTES < n) (bytes_kept w.sent) many))
