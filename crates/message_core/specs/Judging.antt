-- The reader's tests, in their order. What they mean is said by `Finds`.
use Rattle.std.specs.Prelude.{ℕ, ◌^◌, ℤ, pos, negsuc, ◌==◌, nat_lt, [], ◌∷◌, Result, Ok, Err, if◌then◌else◌}
use Rattle.std.specs.Ordering.{int_eq}
use Rattle.std.specs.Result.{result_map_both}
use Rattle.rp_base.specs.declared.plain.Plain.{Plain}
use Rattle.rp_base.specs.declared.plain.Plain.TheOpen.{Plain-F}
use Rattle.rp_base.specs.declared.handlers.Handler.{Handler}
use Rattle.rp_base.specs.declared.handlers.Handler.TheVariants as handler
use Rattle.rp_base.specs.PlainValues.{look}
use Rattle.message_core.specs.declared.message.Message.{Message}
use Rattle.message_core.specs.declared.message.Message.TheVariants as message
use Rattle.message_core.specs.declared.faults.MsgFault.{MsgFault}
use Rattle.message_core.specs.declared.faults.MsgFault.TheVariants as fault
use Rattle.message_core.specs.Messages.{is_left_out}
use Rattle.message_core.specs.declared.reading.Form.{Form}
use Rattle.message_core.specs.declared.reading.Form.TheVariants as form

abbrev pub seen_as : Form → ℕ → Plain → Message
seen_as (form.Request h) seq content = message.Request seq h content
seen_as form.Reply seq content = message.Reply seq content
seen_as form.Exception seq content = message.Exception seq content

-- the handler of a number, or why there is none
abbrev pub handler_numbered : ℕ → Result Handler MsgFault
handler_numbered n =
    if n == 1 then Ok handler.Ping
    else if n == 2 then Ok handler.Close
    else if n == 3 then Ok handler.GetRoot
    else if n == 4 then Ok handler.GetAttr
    else if n == 5 then Ok handler.DelAttr
    else if n == 6 then Ok handler.SetAttr
    else if n == 7 then Ok handler.Call
    else if n == 8 then Ok handler.CallAttr
    else if n == 9 then Ok handler.Repr
    else if n == 10 then Ok handler.Str
    else if n == 11 then Ok handler.Cmp
    else if n == 15 then Ok handler.Del
    else if n == 16 then Ok handler.Inspect
    else if is_left_out n then Err (fault.M4 n)
    else Err (fault.M3 (pos n))

abbrev pub handler_at : ℤ → Result Handler MsgFault
handler_at (pos n) = handler_numbered n
handler_at (negsuc n) = Err (fault.M3 (negsuc n))

abbrev pub request_at : ℕ → Plain-F Plain → Plain → Result Message MsgFault
request_at seq (Plain-F.Int number) args = result_map_both (λ h. message.Request seq h args) (λ e. e) (handler_at number)
request_at seq _ args = Err fault.M1

abbrev pub asked_at : ℕ → Plain-F Plain → Result Message MsgFault
asked_at seq (Plain-F.Tuple (number ∷ args ∷ [])) = request_at seq (look number) args
asked_at seq _ = Err fault.M1

abbrev pub requested : ℕ → Plain → Result Message MsgFault
requested seq content = asked_at seq (look content)

abbrev pub by_kind : ℤ → ℕ → Plain → Result Message MsgFault
by_kind kind seq content =
    if int_eq kind (pos 1) then requested seq content
    else if int_eq kind (pos 2) then Ok (message.Reply seq content)
    else if int_eq kind (pos 3) then Ok (message.Exception seq content)
    else Err (fault.M2 kind)

abbrev pub numbered : Plain-F Plain → Plain-F Plain → Plain → Result Message MsgFault
numbered (Plain-F.Int kind) (Plain-F.Int (pos seq)) content = if nat_lt seq (2 ^ 64) then by_kind kind seq content else Err fault.M1
numbered _ _ content = Err fault.M1

abbrev pub judged_at : Plain-F Plain → Result Message MsgFault
judged_at (Plain-F.Tuple (kind ∷ number ∷ content ∷ [])) = numbered (look kind) (look number) content
judged_at _ = Err fault.M1

abbrev pub judged : Plain → Result Message MsgFault
judged p = judged_at (look p)
