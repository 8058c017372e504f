use Rattle.std.proofs.Common.{refl}
use Rattle.tables.proofs.fault.value_text.Goals as goal

pub returns : goal.returns
returns c =
    let text = c.in_ok-format.ensures.ok in
    let name = c.in_ok-extend_from_slice.ensures.items in
    let colon = c.in_ok-extend_from_slice-2.ensures.items in
    let reason = c.in_ok-extend_from_slice-3.ensures.items in
    rw (reason, colon, name, c.into_bytes-text.ensures.value, text, c.reason.ensures) refl
