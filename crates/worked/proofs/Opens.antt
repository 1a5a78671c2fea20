-- What whole messages are computed with. To unfold a name is to unfold all that its own line names, so that `unfolding converting` opens, crate by crate, every
-- definition of which a message's numbers, what it gives and the program's lines are made.
use Rattle.octets.specs.Bytes.{between, every, is_capital, is_digit, is_letter, is_space, is_visible, one_of, same}
use Rattle.octets.specs.Digits.{digits, in_range, num_of, value_from}
use Rattle.octets.specs.Scan.{scan_by}
use Rattle.octets.specs.Text.{bytes}
use Rattle.characters.specs.Utf8.{coded_at, coded_width, encoded, is_coded, is_legal, scalar_at, utf8, width_at, written}
use Rattle.pieces.specs.Classes.{figure_of, is_figure, is_named, is_plain, is_start}
use Rattle.pieces.specs.Pieces.{char_at, in_note, in_text, name_at, note_at, noted, number_at, numeral_from, piece_at, plain_at, ref_at, referred, short, tag_at, worded_at}
use Rattle.pieces.specs.Walk.{stepped, walk}
use Rattle.tags.specs.Attributes.{attr_at, attr_named, bit_at, decoded_at, decoded_from, equalled, over, seek_at, sought}
use Rattle.tags.specs.Attributes as tags-attributes
use Rattle.tags.specs.Tags.{close_at, unless_named, open_at, shut_at, tail_at, tailed, take_at, taken}
use Rattle.markup.specs.Document.{declaration_at, doc_at, ended, in_declaration, before_root, led, misc_at, misc_step, root_at, rooted}
use Rattle.markup.specs.Document as markup-document
use Rattle.markup.specs.Tree.{child, closed, elem_at, items, opened, in_front, sealed}
use Rattle.markup.specs.Tree as markup-tree
use Rattle.values.specs.Chars.{chars, chars_to, fold, met, next_at, spelled, text_at}
use Rattle.values.specs.Chars as values-chars
use Rattle.values.specs.Value.{collapsed, runs, small, trimmed}
use Rattle.values.specs.WorkingSteps.{six_digits}
use Rattle.values.specs.Value as values-value
use Rattle.reads.specs.WorkingLeaves.{only_of, pair_ok, sound_of}
use Rattle.reads.specs.Names.{local_at}
use Rattle.reads.specs.WorkingSteps.{audio_of, audio_step, uri_ok, english, event_step, location_step, parameter_step, rows_step, with_location}
use Rattle.gather.specs.WorkingRead.{alert_of, from_english, info_of, selected, selection}
use Rattle.gather.specs.Read.{bare, named}
use Rattle.gather.specs.WorkingVisit.{leaf_place}
use Rattle.clock.specs.Calendar.{day_number, days_before, days_to, divides, leap, month_days, months, sum, year_days}
use Rattle.clock.specs.Period.{at_most, period_of, up}
use Rattle.clock.specs.Stamp.{begun, day_of, stamp_of, year_of}
use Rattle.clock.specs.Time.{is_sign, signed, since2000, time_of, utc, in_span}
use Rattle.clock.specs.Written.{jjjhhmm, tttt}
use Rattle.fields.specs.Fields.{identity_ok, is_identity_byte}
use Rattle.fields.specs.WorkingFields.{index_in, msg_type_in}
use Rattle.fields.specs.References.{behind, up_to, words}
use Rattle.fields.specs.WorkingFields.{group_ok, references_ok}
use Rattle.parts.specs.Originator.{originator_bytes, originator_of}
use Rattle.parts.specs.Parts.{event_ok, is_period, is_station_byte, is_zero, station_ok}
use Rattle.header.specs.Body.{body_bytes, body_form, head_form, length_form, locations_bytes, locations_form, period_form, time_form, times_bytes}
use Rattle.header.specs.Header.{header_bytes}
use Rattle.message.specs.WorkingJudged.{identified, info_ok, number_with, timed, typed}
use Rattle.message.specs.WorkingJudged as message-judged
use Rattle.message.specs.WorkingMessage.{judged, message_says, of_root}
use Rattle.message.specs.WorkingMessage as message-message
use Rattle.message.specs.Root.{before_colon, colon_at, is_namespace, prefix_of, root_ok, root_with, xmlns_of}
use Rattle.judgement.specs.WorkingJudged.{alerted, body_with, judged_by}
use Rattle.judgement.specs.WorkingRules.{event_is, lacks_references, located, origin_of, quiet_of, referenced, seconds_to, unplaced}
use Rattle.sentence.specs.Words.{location_word, org_words, others, sentence_of, when_words, who_words, words_in}
use Rattle.sentence.specs.Words as sentence-words
use Rattle.wording.specs.Text.{after_space, cut, last_parts, phrase, room_of, shares_of, text_of}
use Rattle.outputs.specs.WorkingOutputs.{roomy_text, uri_in}
use Rattle.canadian.specs.Canadian.{canadian_text}
use Rattle.canadian.specs.WorkingCanadian.{canadian_by, canadian_given, canadian_of, words_given}
use Rattle.convert.specs.WorkingConvert.{call_of, header_by, header_call, judged_for, outcome_of, text_by, text_call, text_in}
use Rattle.report.specs.Lines.{alert_lines, audio_line, audio_words, carry_line, decimal, line, lines_of, number_line, or_none, value_line}
use Rattle.report.specs.Lines as report-lines
use Rattle.report.specs.Program.{program_of}

octets-opens : Unit {0}
unfolding between every is_capital is_digit is_letter is_space is_visible one_of same digits in_range num_of value_from scan_by bytes
octets-opens = tt

clock-opens : Unit {0}
unfolding day_number days_before days_to divides leap month_days months sum year_days at_most period_of up begun day_of stamp_of year_of is_sign signed since2000 time_of
    utc in_span jjjhhmm tttt
clock-opens = tt

parts_opens : Unit {0}
unfolding originator_bytes originator_of event_ok is_period is_station_byte is_zero station_ok
parts_opens = tt

header-opens : Unit {0}
unfolding body_bytes body_form head_form length_form locations_bytes locations_form period_form time_form times_bytes header_bytes
header-opens = tt

characters-opens : Unit {0}
unfolding coded_at coded_width encoded is_coded is_legal scalar_at utf8 width_at written
characters-opens = tt

pieces-opens : Unit {0}
unfolding figure_of is_figure is_named is_plain is_start char_at in_note in_text name_at note_at noted number_at numeral_from piece_at plain_at ref_at referred short
    tag_at worded_at stepped walk
pieces-opens = tt

tags-opens : Unit {0}
unfolding attr_at attr_named bit_at decoded_at decoded_from equalled over seek_at sought tags-attributes.character_then tags-attributes.quoted_at tags-attributes.attribute_of close_at
    unless_named open_at shut_at tail_at tailed take_at taken
tags-opens = tt

markup-opens : Unit {0}
unfolding declaration_at doc_at ended in_declaration before_root led misc_at misc_step root_at rooted markup-document.go_on child closed elem_at items opened in_front sealed
    markup-tree.piece_then
markup-opens = tt

values-opens : Unit {0}
unfolding chars chars_to fold met next_at spelled text_at values-chars.passed values-chars.turn collapsed runs six_digits small trimmed values-value.spaced
    values-value.value_at
values-opens = tt

reads-opens : Unit {0}
unfolding only_of pair_ok sound_of local_at audio_of audio_step uri_ok english event_step location_step parameter_step rows_step with_location
reads-opens = tt

gather-opens : Unit {0}
unfolding alert_of bare from_english info_of named selected selection leaf_place
gather-opens = tt

fields-opens : Unit {0}
unfolding identity_ok index_in is_identity_byte msg_type_in behind group_ok references_ok up_to words
fields-opens = tt

message-opens : Unit {0}
unfolding identified info_ok number_with timed typed message-judged.place_among judged message_says of_root message-message.judged_root before_colon colon_at
    is_namespace prefix_of root_ok root_with xmlns_of
message-opens = tt

judgement-opens : Unit {0}
unfolding alerted body_with judged_by event_is lacks_references located origin_of quiet_of referenced seconds_to unplaced
judgement-opens = tt

sentence-opens : Unit {0}
unfolding location_word org_words others sentence_of when_words who_words words_in sentence-words.location_words
sentence-opens = tt

wording-opens : Unit {0}
unfolding after_space cut last_parts phrase room_of shares_of text_of
wording-opens = tt

outputs-opens : Unit {0}
unfolding roomy_text uri_in
outputs-opens = tt

canadian-opens : Unit {0}
unfolding canadian_by canadian_given canadian_of canadian_text words_given
canadian-opens = tt

convert-opens : Unit {0}
unfolding call_of header_by header_call judged_for outcome_of text_by text_call text_in
convert-opens = tt

report-opens : Unit {0}
unfolding alert_lines audio_line audio_words carry_line decimal line lines_of number_line or_none value_line report-lines.kind_then_uri program_of
report-opens = tt

unfoldable pub converting : Unit {0}
unfolding octets-opens clock-opens parts_opens header-opens characters-opens pieces-opens tags-opens markup-opens values-opens reads-opens gather-opens fields-opens message-opens judgement-opens sentence-opens wording-opens outputs-opens canadian-opens convert-opens report-opens
converting = tt
