-- Document 01's 'Bales to prove', a shift, base rates, patterns of reads and made-up bales, as one table, proved together by computing the definitions.
use Rattle.std.specs.Prelude.{ℕ, ◌+◌, ◌/◌, ◌%◌, ◌≡◌, refl, Bool, true, false, List, [], ◌∷◌, ◌++◌, map, pos, negsuc, length, get_or, replicate, Float}
use Rattle.std.proofs.Math.Option.{none, some}
use Rattle.std.specs.Float.{binary32, fin}
use Rattle.std.specs.Float.Ieee.{round, add, sub, mul, div, neg, lt, le, eq, is_nan, of_int, to_unsigned, to_bits, size, of_bits}
use Rattle.definition.specs.Floats.{maxᶠ, abs, avoid_underflow, clamp, log_table_number, log_table_entry, ln_of_bits, ln, exp_series, exp_reduced, exp, powi_from, powi, zeroᶠ, halfᶠ, oneᶠ, twoᶠ, ln2, ratio}
use Rattle.definition.specs.Vectors.{sum_of, product_from, product_of, normalize, avoid_underflow_all, log_normalize, sum_log_blocks, sum_logs_batched, binary}
use Rattle.definition.specs.Settings.{Settings}
use Rattle.definition.specs.NoisyOr.{cpd_absent, cpd_absent_regularised, cpd_rows, cpd_table}
use Rattle.definition.specs.ConvolutionTree.{convolve, count_layer, message_up, likelihoods_below, tree_layers, log_length, first_layer, tree_messages}
use Rattle.definition.specs.FactorGraph.{built_graph, Bale, Node}
use Rattle.definition.specs.Components.{walk, components, components_of, subgraph, subgraph_of}
use Rattle.definition.specs.Directions.{edge_at, direction_to, directions_to, firsts_incoming, direction_from, message_nodes_from, message_graph, message_graph_of, set_messages, copy_node, copy_nodes}
use Rattle.definition.specs.Messages.{initial_belief, out_message_log, out_message_variable, out_message_factor, out_message_factor_to, out_message_by, out_message, abs_log_ratio, pair_residual, vector_residual, residual, equal_messages, message_change, change_exceeds, needs_rebuild, tree_out_messages, out_messages_tree, out_messages}
use Rattle.definition.specs.Sweeps.{initial_message, update_kind, opening_input, opening_factor, opening_grade, log_total, leave_one_out, opening_variable, initialize_messages, opening, compute_update, sweep}
use Rattle.definition.specs.Priorities.{exceeds, higher, highest_from, highest_priority}
use Rattle.definition.specs.Run.{initial_priority, begin_loop, update_single, neighbour_numbers, update_tree, update_message, other_outgoing, add_pending, push_priorities, scheduled_step, apply_event, state_after, opening_and_sweeps, events, loop, run}
use Rattle.definition.specs.Answer.{log_marginal, marginal, beliefs_among, part_answer, answers_of, answers_from, answer, ending_number, ending_residual, answered_beliefs, belief_numbers, belief_floats, ending_numbers, ending_floats}
use Rattle.definition.specs.Refusals.{markers_of, pairs_of, bale_of, outside, too_many, work_needed, too_small, bad_tolerance, bad_evidence, unknown_pair, lowest_place_from, lowest_place, repeated_pairs, too_many_grades, or_refused, verdict, Buffers, accepted, refused}
use Rattle.definition.specs.BaleFile.{words, word_kind, bits, field_width, clean_word, may_follow, bad_word_from, bad_word, words_of_kind, first_of_kind, settings_of_words, base_rate, evidence_of, pair_of, bale_of_words}
use Rattle.definition.specs.FileAnswer.{zero_base, file_verdict}
use Rattle.definition.specs.Listing.{decimal_before, decimal, hex_digit, hex_before, hex, line, part_fields, belief_line, belief_lines, part_lines, bale_line, refusal, verdict_lines, listing}
use Rattle.definition.specs.Shift.{on_first, bales, shift_listing}
use Rattle.definition.specs.Lists.{range, concat, patterns}
use Rattle.definition.specs.Reads.{with_reads, all_weak, present_of, present_under, above_half}
use Rattle.definition.specs.Report.{ReportBuffers, ample_for, sizes_verdict}
use Rattle.definition.specs.Patterns.{pattern_count, pattern_counts, pattern_verdict}
use Rattle.definition.specs.Trials.{next_number, draw, draw_each, draw_reads, MadeUp, marker_limits, read_limits, grade_limits, made_up, history, Trials, settings_with, settings_under, judgements, all_judgements, setting_counts, trial_counts, outside_range, setting_tests, trial_verdict, trial_settings_of}
use Rattle.definition.specs.Text.{ascii}

-- ---- what the table speaks of

-- 32-bit words as the bytes of a file
abbrev little_endian : List ℕ → List ℕ
little_endian ws = concat (map (λ w. (w % 256) ∷ (w / 256 % 256) ∷ (w / 65536 % 256) ∷ (w / 16777216) ∷ []) ws)

-- document 01's sample; an end word alone; a word of kind 4 and an end word with a bit set, and three bytes
abbrev sample : List ℕ
sample = little_endian (0x20080200 ∷ 0x40000200 ∷ 0x60000001 ∷ 0x80002000 ∷ 0xA0000000 ∷ 0xC0000000 ∷ [])

abbrev early : List ℕ
early = little_endian (0xC0000000 ∷ [])

abbrev stray : List ℕ
stray = little_endian (0x80002000 ∷ 0xC0000001 ∷ []) ++ 0 ∷ 0 ∷ 0 ∷ []

-- the sample with these words behind its prior, and this e
abbrev with_words : List ℕ → ℕ → List ℕ
with_words ws e = little_endian (0x20080200 ∷ 0x40000200 ∷ (ws ++ 0x60000001 ∷ (0x80000000 + e) ∷ 0xA0000000 ∷ 0xC0000000 ∷ []))

-- a base rate of b 1,024ths
abbrev base : ℕ → ℕ
base b = 0xE0000000 + b

-- alpha is a/d, and beta and the prior are 1/2
abbrev settings : ℕ → ℕ → Bool → Settings
settings a d r = record { alpha = ratio a d; beta = halfᶠ; prior = halfᶠ; regularised = r; tolerance = ratio 6 1000; loop_limit = 10000 }

-- n grades, all on one marker
abbrev shared : ℕ → Bale
shared n = record { grades = n; markers = record { absent = halfᶠ; present = halfᶠ } ∷ []; pairs = map (λ (g : ℕ). record { grade = g; marker = 0 }) (range 0 n) }

-- g grades and nothing else
abbrev unmarked : ℕ → Bale
unmarked g = record { grades = g; markers = []; pairs = [] }

-- as much of each buffer as 129 grades on a marker ask for, and so many floats of work
abbrev lent : ℕ → Buffers
lent n = record { work_floats = n; work_numbers = 20672; belief_numbers = 129; belief_floats = 258; ending_numbers = 516; ending_floats = 129 }

abbrev ample : Buffers
ample = lent 20672

-- so many grades, these pairs, so many markers
abbrev marked : ℕ → List ℕ → ℕ → Bale
marked g ps m = record { grades = g; markers = replicate m (record { absent = halfᶠ; present = halfᶠ }); pairs = pairs_of ps }

abbrev reporting : ℕ → ReportBuffers
reporting n = record { work_floats = 4288; work_numbers = 4288; report = n }

-- these settings, so many bales from this seed
abbrev trying : List ℕ → ℕ → ℕ → Bale → Trials
trying ns n x b =
    record { settings = trial_settings_of ns; seed = x; bales = n; regularised = false; tolerance = ratio 6 1000; loop_limit = 10000; graph = b }

-- 2 grades and 2 markers: pairs 0 0, 1 0, 1 1
abbrev two : Bale
two = marked 2 (0 ∷ 0 ∷ 1 ∷ 0 ∷ 1 ∷ 1 ∷ []) 2

-- the bales that 700, 50 and 400 1,024ths make up of it from seed 1
abbrev five : List MadeUp
five = history (record { alpha = 700; beta = 50; prior = 400 }) two 5 1

-- how many nodes and edges each component has
abbrev sizes : Bale → List (List ℕ)
sizes b = map (λ (p : List Node). let h = subgraph_of b p in length h.nodes ∷ length h.edges ∷ []) (components_of b)

-- m / 2 ^ (e + 1)
abbrev over2 : ℕ → ℕ → Float
over2 m e = fin false m (negsuc e)

-- ---- the table

pub record Bales : Type 0 where
  -- the listing
  pub listed : listing sample
      ≡ ascii "bale 1 1 1\npart 0 empty 0\n0 3F000000 3F000000\n"
  -- a shift: no bale; an early end, a bale, one without settings whose end has a bit set, and three bytes; and what each is listed as
  pub shift_of_none : shift_listing [] ≡ []
  pub shift-cut : map length (bales (early ++ sample ++ stray)) ≡ 4 ∷ 24 ∷ 8 ∷ 3 ∷ []
  pub shift-listed : shift_listing (early ++ sample ++ stray)
      ≡ ascii "refused 9 at 0\nbale 1 1 1\npart 0 empty 0\n0 3F000000 3F000000\nrefused 9 at 0\nrefused 9 at 0\n"
  -- a base rate of 300/1024 taken out of 3/4; one of 0, alone, ahead of 25 grades and an alpha of 0, and behind a bad word
  pub base-listed : listing (with_words (base 300 ∷ []) 12288)
      ≡ ascii "bale 1 1 1\npart 0 empty 0\n0 3ED73FBF 3F146020\n"
  pub base-zero : file_verdict (with_words (base 0 ∷ []) 8192) ≡ refused 11 2
  pub base-zero-first : file_verdict (little_endian (0x20000000 ∷ 0x40000200 ∷ base 0 ∷ 0x60000019 ∷ 0xC0000000 ∷ [])) ≡ refused 11 2
  pub base-zero_in_bad : file_verdict (little_endian (0x20080200 ∷ 0x40000200 ∷ base 0 ∷ 0x60000001 ∷ 0x80008000 ∷ 0xC0000000 ∷ [])) ≡ refused 9 4
  -- the ends of number 5 for a base rate of 1/1024
  pub least-absent : file_verdict (with_words (base 1 ∷ []) 15360) ≡ accepted
  pub less_absent : file_verdict (with_words (base 1 ∷ []) 15361) ≡ refused 5 0
  pub least-present : file_verdict (with_words (base 1 ∷ []) 2) ≡ accepted
  pub less_present : file_verdict (with_words (base 1 ∷ []) 1) ≡ refused 5 0
  pub read-over : file_verdict (with_words (base 1 ∷ []) 16385) ≡ refused 5 0
  -- one word of kind 7 behind the prior and none elsewhere, with no bit set above bit 9
  pub base_good : bad_word (with_words (base 1023 ∷ []) 1024) ≡ none
  pub base_twice : bad_word (with_words (base 1 ∷ base 1 ∷ []) 8192) ≡ some 3
  pub base-stray : bad_word (with_words (base 1024 ∷ []) 8192) ≡ some 2
  pub base-before_prior : bad_word (little_endian (0x20080200 ∷ base 1 ∷ 0x40000200 ∷ 0x60000001 ∷ 0xC0000000 ∷ [])) ≡ some 1
  pub base-behind-grades : bad_word (little_endian (0x20080200 ∷ 0x40000200 ∷ 0x60000001 ∷ base 1 ∷ 0xC0000000 ∷ [])) ≡ some 3
  -- the empty graph has no part; one grade alone is a part, and has no belief
  pub empty_graph : sizes (unmarked 0) ≡ []
  pub empty-answer : answer (settings 1 2 false) (unmarked 0) ≡ []
  pub grade-alone : sizes (unmarked 1) ≡ (1 ∷ 0 ∷ []) ∷ []
  pub no_belief : answer (settings 1 2 false) (unmarked 1) ≡ []
  -- one marker with three grades: one part, of 6 nodes and 5 edges
  pub three-grades : sizes (shared 3) ≡ (6 ∷ 5 ∷ []) ∷ []
  -- the table of degree 2 for alpha = beta = 1/2: 0.25, 0.25; 0.125, 0.375; and regularised: 0.25, 0.25; 0.0625, 0.4375
  pub degree-two : cpd_table (settings 1 2 false) 2 ≡ record { absent = over2 1 1; present = over2 1 1 } ∷ record { absent = over2 1 2; present = over2 3 2 } ∷ []
  pub degree-two_regularised : cpd_table (settings 1 2 true) 2 ≡ record { absent = over2 1 1; present = over2 1 1 } ∷ record { absent = over2 1 3; present = over2 7 3 } ∷ []
  -- the root of two leaves [0.5, 0.5]: 0.25, 0.5, 0.25
  pub two-leaves : (tree_layers 1 [] (first_layer (binary halfᶠ halfᶠ ∷ binary halfᶠ halfᶠ ∷ []))).root ≡ over2 1 1 ∷ halfᶠ ∷ over2 1 1 ∷ []
  -- the stand-ins
  pub ln-one : ln oneᶠ ≡ zeroᶠ
  pub ln-two : ln twoᶠ ≡ ln2
  pub exp-zero : exp zeroᶠ ≡ oneᶠ
  pub exp-minus_88 : exp (fin true 11 (pos 3)) ≡ zeroᶠ
  -- the ends of three checks
  pub alpha_least : verdict (settings 1 1024 false) ample (shared 1) ≡ accepted
  pub alpha_less : verdict (settings 1 2048 false) ample (shared 1) ≡ refused 3 0
  pub most-grades : verdict (settings 1 2 false) ample (shared 128) ≡ accepted
  pub one-grade-more : verdict (settings 1 2 false) ample (shared 129) ≡ refused 8 0
  pub one_float_less : verdict (settings 1 2 false) (lent 20671) (shared 129) ≡ refused 2 0
  -- one marker with one grade, read weakly and strongly: each read is one pattern of two
  pub read_weakly : present_under (settings 1 2 false) (marked 1 (0 ∷ 0 ∷ []) 1) (false ∷ []) 0 ≡ some (of_bits binary32 0x3EB851EE)
  pub read_strongly : present_under (settings 1 2 false) (marked 1 (0 ∷ 0 ∷ []) 1) (true ∷ []) 0 ≡ some (of_bits binary32 0x3F16F96E)
  pub counted : pattern_counts (settings 1 2 false) (marked 1 (0 ∷ 0 ∷ []) 1) ≡ 1 ∷ 1 ∷ 0 ∷ []
  -- a grade in no pair has no belief; no marker is one pattern
  pub unpaired : pattern_counts (settings 1 2 false) (marked 1 [] 1) ≡ 0 ∷ 0 ∷ 2 ∷ []
  pub no_marker : pattern_counts (settings 1 2 false) (unmarked 1) ≡ 0 ∷ 0 ∷ 1 ∷ []
  -- over 10 markers ahead of too many grades, these ahead of a short report, it ahead of a bad alpha, and that ahead of an unknown pair
  pub many_markers_lem : pattern_verdict (settings 1 2 false) (reporting 0) (marked 1025 [] 11) ≡ refused 18 0
  pub many-grades : pattern_verdict (settings 1 2 false) (reporting 0) (marked 1025 [] 10) ≡ refused 1 0
  pub short_report_lem : pattern_verdict (settings 1 2048 false) (reporting 2) (marked 1 [] 0) ≡ refused 2 0
  pub alpha_first : pattern_verdict (settings 1 2048 false) (reporting 3) (marked 1 [] 0) ≡ refused 3 0
  pub unknown_marker_lem : pattern_verdict (settings 1 2 false) (reporting 3) (marked 1 (0 ∷ 0 ∷ []) 0) ≡ refused 6 0
  pub all-patterns : pattern_verdict (settings 1 2 false) (reporting 3) (marked 1 (0 ∷ 0 ∷ []) 1) ≡ accepted
  -- xorshift from seed 1; five made-up bales: which grades are present, which markers are read strongly, and the state after 22 draws
  pub first-number : next_number 1 ≡ 270369
  pub second_number : next_number 270369 ≡ 67634689
  pub five-present :
      map (λ (d : MadeUp). d.presences) five
      ≡ (true ∷ false ∷ []) ∷ (false ∷ false ∷ []) ∷ (false ∷ false ∷ []) ∷ (true ∷ false ∷ []) ∷ (false ∷ false ∷ []) ∷ []
  pub five-read :
      map (λ (d : MadeUp). d.reads) five
      ≡ (true ∷ false ∷ []) ∷ (false ∷ false ∷ []) ∷ (false ∷ false ∷ []) ∷ (true ∷ false ∷ []) ∷ (false ∷ false ∷ []) ∷ []
  pub five-state : get_or (map (λ (d : MadeUp). d.state) five) 4 0 ≡ 3822316985
  -- two settings on a bale of one grade and one marker, each from the seed; a grade in no pair is not counted
  pub tried : trial_counts (trying (512 ∷ 512 ∷ 512 ∷ 1 ∷ 1 ∷ 34 ∷ []) 1 1 (marked 1 (0 ∷ 0 ∷ []) 1)) ≡ 1 ∷ 0 ∷ 0 ∷ 1 ∷ []
  pub tried_unpaired : trial_counts (trying (512 ∷ 512 ∷ 512 ∷ []) 1 1 (marked 1 [] 1)) ≡ 0 ∷ 0 ∷ []
  -- seed 0 ahead of too many bales, these ahead of too many grades, these ahead of a short report, it ahead of a bad setting, that ahead of an unknown pair
  pub zero_seed_lem : trial_verdict (reporting 0) (trying [] 1001 0 (unmarked 1025)) ≡ refused 16 0
  pub many-bales : trial_verdict (reporting 0) (trying [] 1001 1 (unmarked 1025)) ≡ refused 17 0
  pub many-grades_tried : trial_verdict (reporting 0) (trying (0 ∷ 1 ∷ 1 ∷ []) 1000 1 (unmarked 1025)) ≡ refused 1 0
  pub short_report_tried : trial_verdict (reporting 1) (trying (1 ∷ 1 ∷ 1024 ∷ []) 1000 1 (unmarked 1)) ≡ refused 2 0
  pub bad_setting : trial_verdict (reporting 4) (trying (1 ∷ 1 ∷ 1 ∷ 5 ∷ 0 ∷ 1024 ∷ []) 1 1 (marked 1 (0 ∷ 0 ∷ []) 0)) ≡ refused 3 4
  pub unknown_marker_tried : trial_verdict (reporting 4) (trying (1 ∷ 1 ∷ 1 ∷ 5 ∷ []) 1 1 (marked 1 (0 ∷ 0 ∷ []) 0)) ≡ refused 6 0
  pub no_setting_lem : trial_verdict (reporting 0) (trying [] 0 1 (unmarked 1)) ≡ accepted

pub bales_computed : Bales
unfolding round add sub mul div neg lt le eq is_nan of_int to_unsigned to_bits size of_bits maxᶠ abs avoid_underflow clamp log_table_number log_table_entry ln_of_bits ln exp_series exp_reduced exp powi_from powi sum_of product_from product_of normalize avoid_underflow_all log_normalize sum_log_blocks sum_logs_batched cpd_absent cpd_absent_regularised cpd_rows cpd_table convolve count_layer message_up likelihoods_below tree_layers log_length first_layer tree_messages built_graph walk components components_of subgraph subgraph_of edge_at direction_to directions_to firsts_incoming direction_from message_nodes_from message_graph message_graph_of set_messages copy_node copy_nodes initial_belief out_message_log out_message_variable out_message_factor out_message_factor_to out_message_by out_message abs_log_ratio pair_residual vector_residual residual equal_messages message_change change_exceeds needs_rebuild tree_out_messages out_messages_tree out_messages initial_message update_kind opening_input opening_factor log_total leave_one_out opening_variable opening_grade initialize_messages opening compute_update sweep initial_priority begin_loop exceeds higher highest_from highest_priority update_single neighbour_numbers update_tree update_message other_outgoing add_pending push_priorities scheduled_step apply_event state_after opening_and_sweeps events loop run log_marginal marginal beliefs_among part_answer answers_of answers_from answer ending_number ending_residual answered_beliefs belief_numbers belief_floats ending_numbers ending_floats markers_of pairs_of bale_of outside too_many work_needed too_small bad_tolerance bad_evidence unknown_pair lowest_place_from lowest_place repeated_pairs too_many_grades or_refused verdict words word_kind bits field_width clean_word may_follow bad_word_from bad_word words_of_kind first_of_kind settings_of_words base_rate evidence_of pair_of bale_of_words decimal_before decimal hex_digit hex_before hex line part_fields belief_line belief_lines part_lines bale_line refusal verdict_lines zero_base file_verdict listing on_first bales shift_listing ascii patterns with_reads present_of above_half pattern_count pattern_counts ample_for sizes_verdict all_weak pattern_verdict next_number draw draw_each draw_reads marker_limits read_limits grade_limits made_up history settings_with settings_under judgements all_judgements setting_counts trial_counts outside_range setting_tests trial_verdict trial_settings_of
bales_computed =
    record {
      listed = refl;
      shift_of_none = refl;
      shift-cut = refl;
      shift-listed = refl;
      base-listed = refl;
      base-zero = refl;
      base-zero-first = refl;
      base-zero_in_bad = refl;
      least-absent = refl;
      less_absent = refl;
      least-present = refl;
      less_present = refl;
      read-over = refl;
      base_good = refl;
      base_twice = refl;
      base-stray = refl;
      base-before_prior = refl;
      base-behind-grades = refl;
      empty_graph = refl;
      empty-answer = refl;
      grade-alone = refl;
      no_belief = refl;
      three-grades = refl;
      degree-two = refl;
      degree-two_regularised = refl;
      two-leaves = refl;
      ln-one = refl;
      ln-two = refl;
      exp-zero = refl;
      exp-minus_88 = refl;
      alpha_least = refl;
      alpha_less = refl;
      most-grades = refl;
      one-grade-more = refl;
      one_float_less = refl;
      read_weakly = refl;
      read_strongly = refl;
      counted = refl;
      unpaired = refl;
      no_marker = refl;
      many_markers_lem = refl;
      many-grades = refl;
      short_report_lem = refl;
      alpha_first = refl;
      unknown_marker_lem = refl;
      all-patterns = refl;
      first-number = refl;
      second_number = refl;
      five-present = refl;
      five-read = refl;
      five-state = refl;
      tried = refl;
      tried_unpaired = refl;
      zero_seed_lem = refl;
      many-bales = refl;
      many-grades_tried = refl;
      short_report_tried = refl;
      bad_setting = refl;
      unknown_marker_tried = refl;
      no_setting_lem = refl;
    }
